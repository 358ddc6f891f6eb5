use Rattle.std.proofs.Common.{subst, sym}
use Rattle.rt_tasks.specs.Parts.{Sharing}
use Rattle.rt_run.specs.Inputs.{feed}
use Rattle.rt_run.specs.Carrying.{IsCarried}
use Rattle.rt_run.proofs.Carrying.{carried_on, answered_so}
use Rattle.rt_run.proofs.carry.carry_out.Goals as goal

pub returns-in-Went-clause-carried : goal.returns-in-Went-clause-carried
returns-in-Went-clause-carried g c =
    let before = c.args.running.now in
    let after = c.carry_on.new.self in
    let from = feed (g.I.Source.left c.args.input.now) (g.I.Source.ended c.args.input.now) in
    let written = g.O.Sink.written c.args.output.now in
    carried_on c.args.task from from written written before.regs after.regs before.shared.now after.shared.now c.args.supervisor.now c.args.supervisor.now c.in-Went.ensures.done

pub returns-in-Stopped-clause-carried : goal.returns-in-Stopped-clause-carried
returns-in-Stopped-clause-carried g c =
    let before = c.args.running.now in
    let mid = c.carry_on.new.self in
    let n = c.answer_stop in
    let from = feed (g.I.Source.left c.args.input.now) (g.I.Source.ended c.args.input.now) in
    let to = feed (g.I.Source.left n.new.input) (g.I.Source.ended n.new.input) in
    let written = g.O.Sink.written c.args.output.now in
    let written2 = g.O.Sink.written n.new.output in
    let q = c.in-Stopped.ensures in
    subst (λ (s : Sharing). IsCarried n.new.carried c.args.task from written before.regs before.shared.now c.args.supervisor.now to written2 n.new.running.regs s n.new.supervisor) (sym n.ensures.shared)
    (answered_so c.args.task c.counter-at.result from to written written2 before.regs mid.regs n.new.running.regs before.shared.now mid.shared.now c.args.supervisor.now n.new.supervisor c.carry_on.new.stop n.new.carried c.counter-at.ensures q.done q.fault q.asks n.ensures.answered)
