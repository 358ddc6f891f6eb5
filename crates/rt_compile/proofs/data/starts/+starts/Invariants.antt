use Rattle.std.proofs.Common.{◌≡◌, map, drop}
use Rattle.rt_tree_nodes.specs.Code as seen
use Rattle.rt_compile.specs.Data as bytes
use Rattle.rt_compile.proofs.data.starts.+starts.Given as goal

abbrev pub invariant-put_elements-loop-start : goal.invariant-put_elements-loop-start
invariant-put_elements-loop-start l =
    bytes.elements (map (bytes.starts l.layouts (seen.scope l.scope)) (drop l.start-index l.starts)) l.mode l.out
    ≡ bytes.elements (map (bytes.starts l.layouts (seen.scope l.scope)) l.starts) l.mode l.fn.out

abbrev pub invariant-put_fields-loop-start : goal.invariant-put_fields-loop-start
invariant-put_fields-loop-start l =
    bytes.fields (map (bytes.starts l.layouts (seen.scope l.scope)) (drop l.start-index l.starts)) l.left l.out
    ≡ bytes.fields (map (bytes.starts l.layouts (seen.scope l.scope)) l.starts) l.fields l.fn.out
