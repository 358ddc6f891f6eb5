use Rattle.std.proofs.Common.{◌≡◌, ◌∙◌, IfOk, ap, subst}
use Rattle.rt_tree_nodes.specs.Code as seen
use Rattle.rt_tree_nodes.specs.Tree.{Then}
use Rattle.rt_work_state.specs.Nodes as n
use Rattle.rt_resolve.specs.Trees.{build}
use Rattle.rt_resolve.proofs.Built.{starts_built}
use Rattle.rt_resolve.proofs.statements.with_starts.Goals as goal

pub returns : goal.returns
returns c =
    subst (λ x. IfOk c.joined_statements.result (λ q. n.seq q ≡ x))
    (ap (λ l. build Then l (n.seq c.args.behind)) c.in_ok-made.ensures ∙ starts_built (seen.scope c.args.scope.now) c.args.locals.now (n.seq c.args.behind))
    c.joined_statements.ensures
