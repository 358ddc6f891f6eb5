use Rattle.std.proofs.Common.{◌≡◌, ◌++◌, length}
use Rattle.rt_work_state.specs.Nodes as n
use Rattle.rt_resolve.proofs.join.joined_labels.Given as goal

abbrev pub invariant-loop-label : goal.invariant-loop-label
invariant-loop-label l = l.left ++ n.labels l.joined ≡ l.labels

abbrev pub decreases-loop-label : goal.decreases-loop-label
decreases-loop-label l = length l.left
