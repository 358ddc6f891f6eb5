-- What the table tells of a task.
use Rattle.std.proofs.Common.{◌≡◌, ℕ, List, Option, Some, slice_get, ap, ◌∙◌}
use Rattle.rt_tree_nodes.specs.declared.store.Proc.{Proc}
use Rattle.rt_object.specs.declared.object.Brick.{Brick}
use Rattle.rt_object.specs.declared.object.BrickKind.{BrickKind}
use Rattle.rt_object.specs.declared.object.ObjectParts.{ObjectParts}
use Rattle.rt_match.specs.declared.bindings.Bound.{Bound}
use Rattle.rt_system.specs.declared.parts.Task.{Task}
use Rattle.rt_graph.specs.Calls.{IsProcedure, own, content_at, content_of, body_in}
use Rattle.rt_graph.specs.Needs.{counted}
use Rattle.rt_graph.specs.Numbers.{and_then}
use Rattle.rt_graph.specs.Scans.{root_named, stack_named, told_need}
use Rattle.rt_graph.specs.Tasks.{IsRootNamed, AreFound}
use Rattle.rt_digraph.specs.Walks.{root}
use Rattle.rt_graph.proofs.Stacked.{told_is}
use Rattle.rt_graph.proofs.Tasked.{root_to, stack_to}
use Rattle.rt_report.specs.Laws.{IsTold}
use Rattle.rt_report.specs.Stacks.{line_with, task_text}

root_procedure : (objects : List ObjectParts) (f : Proc) (name : List ℕ) → IsRootNamed objects name f → IsProcedure objects f
root_procedure objects f name h =
    let e = h.entry.entry in
    (_, own {o = e.object} {p = h.body} (record { of = e.of; is = ap (λ (x : Option Brick). body_in (content_at x)) e.at ∙ ap (λ (k : BrickKind). body_in (content_of k)) e.ent }))

line_is : (objects : List ObjectParts) (need : Proc → Option ℕ) (t : Task) (f : Proc) (n words : ℕ) → root_named objects t.root ≡ Some f → need f ≡ Some n → stack_named objects t.stack ≡ Some words → task_text need objects t ≡ line_with t (Some n) (Some words)
line_is objects need t f n words r e s =
    ap (λ (o : Option Proc). line_with t (and_then o need) (stack_named objects t.stack)) r
    ∙ ap (λ (o : Option ℕ). line_with t o (stack_named objects t.stack)) e
    ∙ ap (λ (o : Option ℕ). line_with t (Some n) o) s

pub told_of : (objects : List ObjectParts) (tasks : List Task) (of : List (List Bound)) (order : List Proc) (needs : List ℕ) (i : ℕ) (t : Task) → AreFound objects tasks of order needs → slice_get tasks i ≡ Some t → IsTold objects of (told_need order needs) t
told_of objects tasks of order needs i t found at =
    let r = found.are_roots.each i t at in
    let good = r.2 in
    let has = found.is_order.order.all r.0 (root (record { listed = (i, r.3); procedure = root_procedure objects r.0 t.root good.root })) in
    let n = told_is objects of order needs r.0 found.are_needs has in
    record {
      root = r.0;
      is_root = good.root;
      words = r.1;
      stack = good.stack;
      needed = n.0;
      needs = n.1;
      told = line_is objects (told_need order needs) t r.0 (counted n.0) r.1 (root_to objects t.root r.0 good.root) n.2 (stack_to objects t.stack r.1 good.stack);
    }
