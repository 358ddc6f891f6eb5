use Rattle.std.proofs.Common.{◌≡◌, map, take}
use Rattle.rt_tree_nodes.specs.Code as seen
use Rattle.rt_work_state.specs.Nodes as n
use Rattle.rt_resolve.specs.Trees.{value_tree}
use Rattle.rt_resolve.proofs.values.+values.Given as goal

abbrev pub invariant-terms-loop-value : goal.invariant-terms-loop-value
invariant-terms-loop-value l = map n.term l.made ≡ map (value_tree (seen.scope l.scope)) (take l.value-index l.values)
