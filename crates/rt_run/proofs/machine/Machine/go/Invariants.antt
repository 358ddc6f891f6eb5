use Rattle.std.proofs.Common.{◌-◌}
use Rattle.rt_run.specs.Inputs.{feed}
use Rattle.rt_run.specs.Picture.{standing}
use Rattle.rt_run.proofs.Going.{IsUnderWay, RunsSoFar}
use Rattle.rt_run.proofs.machine.Machine.go.Given as goal

abbrev pub invariant-run : goal.invariant-run
invariant-run g l =
    IsUnderWay l.fn.self l.self l.limit (g.I.Source.faults l.fn.input) (g.I.Source.faults l.input) (g.O.Sink.faults l.fn.output) (g.O.Sink.faults l.output)
    × RunsSoFar (standing l.fn.self) (feed (g.I.Source.left l.fn.input) (g.I.Source.ended l.fn.input)) (g.O.Sink.written l.fn.output) (standing l.self) (feed (g.I.Source.left l.input) (g.I.Source.ended l.input)) (g.O.Sink.written l.output)

abbrev pub decreases-run : goal.decreases-run
decreases-run g l = l.limit - l.self.instructions
