use Rattle.std.proofs.Common.{length}
use Rattle.rt_run.proofs.Settling.{IsOnTheWay}
use Rattle.rt_run.proofs.settle.settle.Given as goal

abbrev pub invariant-loop-gap : goal.invariant-loop-gap
invariant-loop-gap l = IsOnTheWay l.steps l.tasks l.initial.supervisor l.initial.timetable l.supervisor l.timetable

abbrev pub decreases-loop-gap : goal.decreases-loop-gap
decreases-loop-gap l = length l.timetable.gaps
