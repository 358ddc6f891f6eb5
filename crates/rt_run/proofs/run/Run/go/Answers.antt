use Rattle.std.proofs.Common.{subst}
use Rattle.rt_run.specs.Inputs.{feed}
use Rattle.rt_run.specs.Picture.{Standing, standing}
use Rattle.rt_run.specs.Runs.{Runs}
use Rattle.rt_run.proofs.run.Run.go.Goals as goal

pub returns-clause-ran : goal.returns-clause-ran
returns-clause-ran g c =
    let n = c.go.new in
    subst (λ (d : Standing). Runs c.args.limit c.go.result d (feed (g.I.Source.left c.args.input.now) (g.I.Source.ended c.args.input.now)) (g.O.Sink.written c.args.output.now) (standing n.self) (feed (g.I.Source.left n.input) (g.I.Source.ended n.input)) (g.O.Sink.written n.output)) c.self.view_is c.go.ensures.ran
