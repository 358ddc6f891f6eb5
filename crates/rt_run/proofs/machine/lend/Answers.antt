use Rattle.std.proofs.Common.{rules}
use Rattle.rt_run.specs.Inputs.{feed}
use Rattle.rt_run.proofs.Completing.{lent_by}
use Rattle.rt_run.proofs.machine.lend.Goals as goal

pub returns-clause-lent : goal.returns-clause-lent
returns-clause-lent g c =
    let running = c.dispatch-running.result in
    let r = c.run_on-stretch in
    lent_by c.args.task c.args.most r.result (feed (g.I.Source.left c.args.input.now) (g.I.Source.ended c.args.input.now)) (feed (g.I.Source.left r.new.input) (g.I.Source.ended r.new.input)) (g.O.Sink.written c.args.output.now) (g.O.Sink.written r.new.output) c.args.supervisor.now r.new.supervisor c.args.shared.now c.args.parked running.regs r.new.running.regs running.shared.now r.new.running.shared.now _ c.park.result c.dispatch-running.ensures.regs c.dispatch-running.ensures.shared c.park.ensures.task (search rules) r.ensures.stretches r.ensures.lasts
