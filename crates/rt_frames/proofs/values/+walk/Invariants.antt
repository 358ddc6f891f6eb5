use Rattle.std.proofs.Common.{◌≡◌, map, drop}
use Rattle.rt_tree_nodes.specs.Code as seen
use Rattle.rt_frames.specs.Measures as measures
use Rattle.rt_frames.specs.Points as spec
use Rattle.rt_frames.proofs.values.+walk.Given as goal

abbrev pub invariant-arguments-loop-argument : goal.invariant-arguments-loop-argument
invariant-arguments-loop-argument l =
    measures.pass_all (measures.passing_of l.passing l.calls) (map (spec.value_points (seen.scope l.scope)) (drop l.argument-index l.values))
    ≡ measures.pass_all (measures.passing_from l.at l.offset l.wanted l.fn.calls) (map (spec.value_points (seen.scope l.scope)) l.values)
