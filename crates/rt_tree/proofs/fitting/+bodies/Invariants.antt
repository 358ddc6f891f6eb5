use Rattle.std.proofs.Common.{◌≡◌, map, drop}
use Rattle.rt_tree_nodes.specs.Code as seen
use Rattle.rt_tree.specs.Sights as sights
use Rattle.rt_tree.specs.Statements as statements
use Rattle.rt_tree.proofs.fitting.+bodies.Given as goal

abbrev pub invariant-in_order-loop-line : goal.invariant-in_order-loop-line
invariant-in_order-loop-line l =
    statements.in_order (map (statements.marked (seen.scope l.scope)) (drop l.line-index l.lines)) (sights.sight l.sight) l.behind
    ≡ statements.in_order (map (statements.marked (seen.scope l.scope)) l.lines) (sights.sight l.sight) l.fn.next

abbrev pub invariant-branches_in_order-loop-branch : goal.invariant-branches_in_order-loop-branch
invariant-branches_in_order-loop-branch l =
    statements.branches_in_order (map (statements.branch_part (seen.scope l.scope)) (drop l.branch-index l.branches)) (sights.sight l.sight) l.behind
    ≡ statements.branches_in_order (map (statements.branch_part (seen.scope l.scope)) l.branches) (sights.sight l.sight) l.fn.next
