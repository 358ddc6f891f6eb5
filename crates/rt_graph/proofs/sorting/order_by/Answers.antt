use Rattle.std.proofs.Common.{ℕ, List, ◌∙◌, subst}
use Rattle.rt_tree_nodes.specs.declared.store.Proc.{Proc}
use Rattle.rt_digraph.specs.Digraph.{IsSorted}
use Rattle.rt_graph.specs.Nodes.{call_graph, IsInOrder, IsCycleIn}
use Rattle.rt_graph.specs.Reach.{IsCallOrder, IsRefused}
use Rattle.rt_graph.proofs.Ordered.{if_ok, if_err, order_right, cycle_right}
use Rattle.rt_graph.proofs.sorting.order_by.Goals as goal

pub returns-clause-order : goal.returns-clause-order
returns-clause-order c =
    let objects = c.args.objects.now in
    let of = c.args.bindings.now.of in
    let table = c.in_ok-table.table in
    let sorted = subst (λ (ns : List ℕ). IsSorted (call_graph objects of table) ns c.in_ok-sorted.sorted) (c.as_slice.ensures ∙ c.in_ok-numbers.ensures) c.in_ok-sorted.ensures in
    if_ok (λ o. IsInOrder c.as_slice-2.result.now c.in_ok-sorted.sorted o.procs) (λ o. IsCallOrder objects of c.args.roots.now o.procs) c.in_order.result
    (λ o h. order_right objects of c.args.roots.now table c.in_ok-table.ensures c.in_ok-sorted.sorted o.procs sorted (subst (λ (r : List Proc). IsInOrder r c.in_ok-sorted.sorted o.procs) c.as_slice-2.ensures h))
    c.in_order.ensures.order

pub returns-clause-refused : goal.returns-clause-refused
returns-clause-refused c =
    let objects = c.args.objects.now in
    let of = c.args.bindings.now.of in
    let table = c.in_ok-table.table in
    let sorted = subst (λ (ns : List ℕ). IsSorted (call_graph objects of table) ns c.in_ok-sorted.sorted) (c.as_slice.ensures ∙ c.in_ok-numbers.ensures) c.in_ok-sorted.ensures in
    if_err (λ e. IsCycleIn c.as_slice-2.result.now c.in_ok-sorted.sorted e) (λ e. IsRefused objects of c.args.roots.now e) c.in_order.result
    (λ e h. cycle_right objects of c.args.roots.now table c.in_ok-table.ensures c.in_ok-sorted.sorted e sorted (subst (λ (r : List Proc). IsCycleIn r c.in_ok-sorted.sorted e) c.as_slice-2.ensures h))
    c.in_order.ensures.refused
