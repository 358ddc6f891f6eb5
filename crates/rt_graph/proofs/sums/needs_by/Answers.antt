use Rattle.std.proofs.Common.{◌≡◌, ℕ, List, replicate, sym, ap, ◌∙◌, subst}
use Rattle.rt_tree_nodes.specs.declared.store.Proc.{Proc}
use Rattle.rt_graph.specs.Needs.{AreNeeds}
use Rattle.rt_graph.specs.Sums.{needs_of}
use Rattle.rt_graph.specs.declared.sums.Found.{Found}
use Rattle.rt_graph.proofs.Needed.{needs_right}
use Rattle.rt_graph.proofs.Ordered.{if_ok}
use Rattle.rt_graph.proofs.sums.needs_by.Goals as goal

pub returns : goal.returns
returns c =
    let objects = c.args.objects.now in
    let of = c.args.bindings.now.of in
    let table = c.in_ok-table.table in
    let found : Found = record { of = c.in_ok-zeros.field-0; greatest = c.in_ok-zeros-2.field-0 } in
    if_ok (λ ns. ns ≡ needs_of objects of table c.as_slice.result.now found) (AreNeeds objects of c.args.order.now.procs) c.needs_of.result
    (λ ns e. subst (AreNeeds objects of c.args.order.now.procs) (sym (e ∙ ap (λ (fs : List Proc). needs_of objects of table fs found) c.as_slice.ensures))
    (needs_right objects of table c.in_ok-table.ensures c.requires.order.0 c.args.order.now.procs c.requires.order.1 found (c.in_ok-zeros.ensures ∙ ap (λ (k : ℕ). replicate k 0) c.len.ensures) c.in_ok-zeros-2.ensures))
    c.needs_of.ensures
