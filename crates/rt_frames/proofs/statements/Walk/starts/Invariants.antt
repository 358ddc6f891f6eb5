use Rattle.std.proofs.Common.{◌≡◌, map, drop}
use Rattle.rt_tree_nodes.specs.Code as seen
use Rattle.rt_frames.specs.Walks as spec
use Rattle.rt_frames.proofs.statements.Walk.starts.Given as goal

abbrev pub invariant-loop-local : goal.invariant-loop-local
invariant-loop-local l =
    spec.in_turn (map (spec.start_part (seen.scope l.scope)) (drop l.local-index l.locals)) l.self ≡ spec.in_turn (map (spec.start_part (seen.scope l.scope)) l.locals) l.fn.self
