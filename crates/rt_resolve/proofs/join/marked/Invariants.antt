use Rattle.std.proofs.Common.{◌≡◌, length}
use Rattle.rt_tree.specs.Statements.{marks}
use Rattle.rt_work_state.specs.Nodes as n
use Rattle.rt_resolve.proofs.join.marked.Given as goal

abbrev pub invariant-loop-label : goal.invariant-loop-label
invariant-loop-label l = marks l.left (n.seq l.joined) ≡ marks l.fn.labels (n.seq l.fn.behind)

abbrev pub decreases-loop-label : goal.decreases-loop-label
decreases-loop-label l = length l.left
