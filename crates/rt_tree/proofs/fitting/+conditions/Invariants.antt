use Rattle.std.proofs.Common.{◌≡◌, map, drop}
use Rattle.rt_tree_nodes.specs.Code as seen
use Rattle.rt_tree.specs.Statements as statements
use Rattle.rt_tree.proofs.fitting.+conditions.Given as goal

abbrev pub invariant-all_fit-loop-test : goal.invariant-all_fit-loop-test
invariant-all_fit-loop-test l =
    statements.all_fit (map (statements.tested (seen.scope l.scope)) (drop l.test-index l.tests)) ≡ statements.all_fit (map (statements.tested (seen.scope l.scope)) l.tests)
