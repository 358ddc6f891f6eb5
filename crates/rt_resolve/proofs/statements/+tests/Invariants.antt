use Rattle.std.proofs.Common.{◌≡◌, map, take}
use Rattle.rt_tree_nodes.specs.Code as seen
use Rattle.rt_work_state.specs.Nodes as n
use Rattle.rt_resolve.specs.Trees.{test_tree}
use Rattle.rt_resolve.proofs.statements.+tests.Given as goal

abbrev pub invariant-conds-loop-test : goal.invariant-conds-loop-test
invariant-conds-loop-test l = map n.cond l.made ≡ map (test_tree (seen.scope l.scope)) (take l.test-index l.tests)
