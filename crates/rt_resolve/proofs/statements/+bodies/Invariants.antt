use Rattle.std.proofs.Common.{◌≡◌, map, take}
use Rattle.rt_tree_nodes.specs.Code as seen
use Rattle.rt_resolve.specs.Trees.{row, row_tree, branch, branch_tree}
use Rattle.rt_resolve.proofs.statements.+bodies.Given as goal

abbrev pub invariant-all_lines-loop-line : goal.invariant-all_lines-loop-line
invariant-all_lines-loop-line l = map row l.made ≡ map (row_tree (seen.scope l.scope)) (take l.line-index l.lines)

abbrev pub invariant-branches-loop-branch : goal.invariant-branches-loop-branch
invariant-branches-loop-branch l = map branch l.made ≡ map (branch_tree (seen.scope l.scope)) (take l.branch-index l.branches)
