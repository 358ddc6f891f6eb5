use Rattle.std.proofs.Common.{◌≡◌, map, drop}
use Rattle.rt_tree_nodes.specs.Code as seen
use Rattle.rt_tree.specs.Modules as modules
use Rattle.rt_tree.proofs.starts.+starts.Given as goal

abbrev pub invariant-all_start-loop-part : goal.invariant-all_start-loop-part
invariant-all_start-loop-part l =
    modules.all_start (map (modules.starts (seen.scope l.scope)) (drop l.part-index l.parts)) l.mode ≡ modules.all_start (map (modules.starts (seen.scope l.scope)) l.parts) l.mode

abbrev pub invariant-fields_start-loop-part : goal.invariant-fields_start-loop-part
invariant-fields_start-loop-part l =
    modules.fields_start (map (modules.starts (seen.scope l.scope)) (drop l.part-index l.parts)) l.left ≡ modules.fields_start (map (modules.starts (seen.scope l.scope)) l.parts) l.fields
