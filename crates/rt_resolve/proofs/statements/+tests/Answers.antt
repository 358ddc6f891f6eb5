use Rattle.std.proofs.Common.{◌≡◌, IfOk, subst}
use Rattle.rt_tree_nodes.specs.Code as seen
use Rattle.rt_work_state.specs.Nodes as n
use Rattle.rt_resolve.proofs.Built.{and_tree, or_tree}
use Rattle.rt_resolve.proofs.statements.+tests.Goals as goal

pub cond-returns-in_ok-tests-in-And : goal.cond-returns-in_ok-tests-in-And
cond-returns-in_ok-tests-in-And t c =
    subst (λ x. IfOk c.joined_tests.result (λ u. n.cond u ≡ x))
    (and_tree (seen.scope c.args.scope.now) c.args.test.now _ _ _ c.in-And.is c.as_slice.ensures c.in_ok-tests-in-And.ensures)
    c.joined_tests.ensures

pub cond-returns-in_ok-tests-in-Or : goal.cond-returns-in_ok-tests-in-Or
cond-returns-in_ok-tests-in-Or t c =
    subst (λ x. IfOk c.joined_tests-in-Or.result (λ u. n.cond u ≡ x))
    (or_tree (seen.scope c.args.scope.now) c.args.test.now _ _ _ c.in-Or.is c.as_slice-in-Or.ensures c.in_ok-tests-in-Or.ensures)
    c.joined_tests-in-Or.ensures
