use Rattle.std.proofs.Common.{◌≡◌, ◌∙◌, IfOk, ap, subst}
use Rattle.rt_tree_nodes.specs.Code as seen
use Rattle.rt_tree_nodes.specs.Tree.{Done}
use Rattle.rt_work_state.specs.Nodes as n
use Rattle.rt_resolve.specs.Trees.{build, after_row}
use Rattle.rt_resolve.proofs.Built.{rows_built}
use Rattle.rt_resolve.proofs.statements.+bodies.Goals as goal

pub sequence-returns : goal.sequence-returns
sequence-returns t c =
    subst (λ x. IfOk c.joined_lines.result (λ q. n.seq q ≡ x))
    (ap (λ l. build after_row l Done) c.in_ok-made.ensures ∙ rows_built (seen.scope c.args.scope.now) c.args.lines.now)
    c.joined_lines.ensures
