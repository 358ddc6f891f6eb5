use Rattle.std.proofs.Common.{◌+◌, length}
use Rattle.rt_sizes.specs.Reaching.{reach, unmarked}
use Rattle.rt_sizes.proofs.Reaching.{Going}
use Rattle.rt_sizes.proofs.contain.mark_contained.Given as goal

abbrev pub invariant-loop-next : goal.invariant-loop-next
invariant-loop-next l = Going l.records l.number (reach l.marks l.waiting)

abbrev pub decreases-loop-next : goal.decreases-loop-next
decreases-loop-next l = unmarked l.marks + length l.waiting
