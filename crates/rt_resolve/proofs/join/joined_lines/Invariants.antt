use Rattle.std.proofs.Common.{◌≡◌, map, length}
use Rattle.rt_tree_nodes.specs.Tree.{Done}
use Rattle.rt_work_state.specs.Nodes as n
use Rattle.rt_resolve.specs.Trees.{build, after_row, row}
use Rattle.rt_resolve.proofs.join.joined_lines.Given as goal

abbrev pub invariant-loop-line : goal.invariant-loop-line
invariant-loop-line l = build after_row (map row l.left) (n.seq l.joined) ≡ build after_row (map row l.fn.lines) Done

abbrev pub decreases-loop-line : goal.decreases-loop-line
decreases-loop-line l = length l.left
