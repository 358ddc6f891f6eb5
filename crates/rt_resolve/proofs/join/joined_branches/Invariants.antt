use Rattle.std.proofs.Common.{◌≡◌, map, length}
use Rattle.rt_tree.specs.Statements.{if_tree}
use Rattle.rt_work_state.specs.Nodes as n
use Rattle.rt_resolve.specs.Trees.{branch}
use Rattle.rt_resolve.proofs.join.joined_branches.Given as goal

abbrev pub invariant-loop-last : goal.invariant-loop-last
invariant-loop-last l = if_tree (map branch l.left) (n.seq l.joined) ≡ if_tree (map branch l.fn.branches) (n.seq l.fn.otherwise)

abbrev pub decreases-loop-last : goal.decreases-loop-last
decreases-loop-last l = length l.left
