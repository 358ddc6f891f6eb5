use Rattle.std.proofs.Common.{◌≡◌, map, drop}
use Rattle.rt_tree_nodes.specs.Code as seen
use Rattle.rt_tree.specs.Statements as statements
use Rattle.rt_tree.proofs.fitting.labels_end.Given as goal

abbrev pub invariant-loop-line : goal.invariant-loop-line
invariant-loop-line l =
    statements.labels_end l.next (map (statements.marked (seen.scope l.scope)) (drop l.line-index l.lines)) ≡ statements.labels_end l.first (map (statements.marked (seen.scope l.scope)) l.lines)
