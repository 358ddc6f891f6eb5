use Rattle.std.proofs.Common.{◌≡◌, map, drop}
use Rattle.rt_tree_nodes.specs.Code as seen
use Rattle.rt_frames.specs.Walks as spec
use Rattle.rt_frames.proofs.statements.Walk.+tests.Given as goal

abbrev pub invariant-each_test-loop-test : goal.invariant-each_test-loop-test
invariant-each_test-loop-test l =
    spec.in_turn (map (spec.test_part (seen.scope l.scope)) (drop l.test-index l.tests)) l.self ≡ spec.in_turn (map (spec.test_part (seen.scope l.scope)) l.tests) l.fn.self
