use Rattle.std.proofs.Common.{◌≡◌, map, length}
use Rattle.rt_tree_nodes.specs.Tree.{Then}
use Rattle.rt_work_state.specs.Nodes as n
use Rattle.rt_resolve.specs.Trees.{build}
use Rattle.rt_resolve.proofs.join.joined_statements.Given as goal

abbrev pub invariant-loop-statement : goal.invariant-loop-statement
invariant-loop-statement l = build Then (map n.stmt l.left) (n.seq l.joined) ≡ build Then (map n.stmt l.fn.statements) (n.seq l.fn.behind)

abbrev pub decreases-loop-statement : goal.decreases-loop-statement
decreases-loop-statement l = length l.left
