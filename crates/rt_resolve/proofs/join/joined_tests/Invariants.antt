use Rattle.std.proofs.Common.{◌≡◌, map, length}
use Rattle.rt_work_state.specs.Nodes as n
use Rattle.rt_resolve.specs.Trees.{build, joining, joined_tests}
use Rattle.rt_resolve.proofs.join.joined_tests.Given as goal

abbrev pub invariant-loop-test : goal.invariant-loop-test
invariant-loop-test l = build (joining l.joins) (map n.cond l.left) (n.cond l.joined) ≡ joined_tests l.joins (map n.cond l.fn.tests)

abbrev pub decreases-loop-test : goal.decreases-loop-test
decreases-loop-test l = length l.left
