use Rattle.std.specs.Prelude.{Ok, Err}
use Rattle.std.proofs.Common.{refl, subst, sym}
use Rattle.pdp_core.specs.declared.cpu.Stop.{Stop}
use Rattle.rt_run.specs.Inputs.{feed}
use Rattle.rt_run.specs.Carrying.{IsAnswered}
use Rattle.rt_run.proofs.carry.answer_stop.Goals as goal

pub returns-in-Ok-clause-answered : goal.returns-in-Ok-clause-answered
returns-in-Ok-clause-answered g c =
    let from = feed (g.I.Source.left c.args.input.now) (g.I.Source.ended c.args.input.now) in
    let to = feed (g.I.Source.left c.ask.new.input) (g.I.Source.ended c.ask.new.input) in
    subst (λ (x : Stop). IsAnswered x c.serve.result c.args.task c.args.at from (g.O.Sink.written c.args.output.now) c.args.running.now.regs c.args.supervisor.now to (g.O.Sink.written c.ask.new.output) c.serve.new.running.regs c.serve.new.supervisor) (sym c.in-Trap.is)
    (record { granted = Ok c.in-Ok.granted; asked = c.in-Ok.ensures.asked; ends = c.serve.ensures.served })

pub returns-in-Err-clause-answered : goal.returns-in-Err-clause-answered
returns-in-Err-clause-answered g c =
    let from = feed (g.I.Source.left c.args.input.now) (g.I.Source.ended c.args.input.now) in
    let to = feed (g.I.Source.left c.ask.new.input) (g.I.Source.ended c.ask.new.input) in
    subst (λ (x : Stop). IsAnswered x c.in-Err.refused c.args.task c.args.at from (g.O.Sink.written c.args.output.now) c.args.running.now.regs c.args.supervisor.now to (g.O.Sink.written c.ask.new.output) c.go_back.new.self.regs c.args.supervisor.now) (sym c.in-Trap.is)
    (record { granted = Err c.in-Err.refused; asked = c.in-Err.ensures.asked; ends = (refl, c.go_back.ensures.regs, refl) })
