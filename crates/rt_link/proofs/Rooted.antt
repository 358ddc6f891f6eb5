-- The needs of the roots of a system that passes all tests: they are small, and so just those that are told.
use Rattle.std.proofs.Common.{◌≡◌, ◌≤◌, ℕ, min, List, Option, Some, option_map, slice_get, sym, ap, ◌∙◌, subst, arith}
use Rattle.std.specs.List.{sum_by}
use Rattle.std.proofs.lemmas.List.Sums.{get_or-le-sum_by}
use Rattle.std.proofs.lemmas.Option.{slice_get_within, slice_get-map, get_or_from_slice_get}
use Rattle.std.proofs.lemmas.List.{length-map}
use Rattle.rt_tree_nodes.specs.declared.store.Proc.{Proc}
use Rattle.rt_object.specs.declared.object.Brick.{Brick}
use Rattle.rt_object.specs.declared.object.BrickKind.{BrickKind}
use Rattle.rt_object.specs.declared.object.Content.{Content}
use Rattle.rt_object.specs.declared.object.Content.TheVariants as content
use Rattle.rt_object.specs.declared.object.ObjectParts.{ObjectParts}
use Rattle.rt_system.specs.declared.parts.Task.{Task}
use Rattle.rt_digraph.specs.Walks.{Has, root}
use Rattle.rt_digraph.proofs.Lists.{some_is}
use Rattle.rt_graph.specs.Calls.{IsProcedure, own, content_of, content_at, body_in}
use Rattle.rt_graph.specs.Needs.{counted, HasNeed}
use Rattle.rt_graph.specs.Scans.{told_need}
use Rattle.rt_graph.specs.Tasks.{IsEntry, IsFirstEntry, IsRootNamed}
use Rattle.rt_graph.proofs.Stacked.{told_is}
use Rattle.rt_link.specs.Room.{bricks_in, held, stack_in, stack_words, task_bytes}
use Rattle.rt_link.specs.declared.judged.Judged.{Judged}
use Rattle.rt_link.specs.VerdictLaws.{EachHasAStack}
use Rattle.rt_link.specs.Verdict.{IsJudged}
use Rattle.rt_link.specs.Linked.{AreRootNeeds}
use Rattle.rt_link.specs.Needs.{word, root_words}
use Rattle.rt_link.proofs.Bricks.{fellow, the_roots, the_stacks}

one_of_sum : {A : Type 0} (F : A → ℕ) (xs : List A) (i : ℕ) (x : A) → slice_get xs i ≡ Some x → F x ≤ sum_by F xs
one_of_sum F xs i x e = subst (λ y. F y ≤ sum_by F xs) (get_or_from_slice_get xs i x x e) (get_or-le-sum_by F xs i x (slice_get_within xs i x e))

-- ---- the words of a stack

-- what an entry holds
entry_held : (objects : List ObjectParts) (name : List ℕ) (f : Proc) (c : Content) → IsEntry objects name f c → held objects f ≡ Some c
entry_held objects name f c is = ap (λ o. content_at (slice_get (bricks_in o) f.brick)) is.of ∙ ap content_at is.at ∙ ap content_of is.ent

pub stack_has : (objects : List ObjectParts) (name : List ℕ) (f : Proc) (words : ℕ) → IsFirstEntry objects name f (content.Stack words) → stack_words objects f ≡ words
stack_has objects name f words first = ap stack_in (entry_held objects name f (content.Stack words) first.entry)

-- ---- the need of a root

root_procedure : (objects : List ObjectParts) (f : Proc) (name : List ℕ) → IsRootNamed objects name f → IsProcedure objects f
root_procedure objects f name h =
    let e = h.entry.entry in
    (_, own {o = e.object} {p = h.body} (record { of = e.of; is = ap (λ (x : Option Brick). body_in (content_at x)) e.at ∙ ap (λ (k : BrickKind). body_in (content_of k)) e.ent }))

small_word : (n : ℕ) → n ≤ 28672 → min (counted n) 65535 ≡ n
small_word n h = by n h
  where
    by : (n : ℕ) → n ≤ 28672 → min (min n 4294967295) 65535 ≡ n
    by n h = omega arith

module _ (law : EachHasAStack) (objects : List ObjectParts) (tasks : List Task) (known : Judged) (judged : IsJudged objects tasks known) where
  -- a task has a root that needs so many words, and a stack that has no fewer, which are few
  pub record IsServed (i : ℕ) (t : Task) (f : Proc) : Type 0 where
    pub need : ℕ
    pub needs : HasNeed objects known.bindings.of f need
    pub is_root : IsRootNamed objects t.root f
    pub told : told_need known.order.procs known.needs f ≡ Some (counted need)
    pub stack : Proc
    pub at : slice_get known.stacks i ≡ Some stack
    pub words : ℕ
    pub first : IsFirstEntry objects t.stack stack (content.Stack words)
    pub fits : need ≤ words
    pub few : words ≤ 28672

  pub served : (i : ℕ) (t : Task) (f : Proc) → slice_get tasks i ≡ Some t → slice_get known.roots i ≡ Some f → IsServed i t f
  served i t f at is =
      let r = (the_roots objects tasks known judged).each i t at in
      let good = r.2 in
      let same : r.0 ≡ f = some_is r.0 f (sym r.3 ∙ is) in
      let is_root : IsRootNamed objects t.root f = subst (IsRootNamed objects t.root) same good.root in
      let ordered = judged.deep.ordered in
      let has : Has known.order.procs f = ordered.is_order.order.all f (root (record { listed = (i, is); procedure = root_procedure objects f t.root is_root })) in
      let n = told_is objects known.bindings.of known.order.procs known.needs f ordered.are_needs has in
      let s = (the_stacks objects tasks known judged law).each i t at in
      let words : stack_words objects s.0 ≡ s.1 = stack_has objects t.stack s.0 s.1 s.3 in
      let sum : task_bytes objects s.0 ≤ sum_by (task_bytes objects) known.stacks = one_of_sum (task_bytes objects) known.stacks i s.0 s.2 in
      let room = judged.room in
      record {
        need = n.0;
        needs = n.1;
        is_root = is_root;
        told = n.2;
        stack = s.0;
        at = s.2;
        words = s.1;
        first = s.3;
        fits = judged.deep.enough i t at f s.1 n.0 is_root (s.0, s.3) n.1;
        few = omega arith;
      }

  pub exact : AreRootNeeds objects known.bindings.of known.roots (root_words known.order.procs known.needs known.roots)
  exact = record { one_each = length-map known.roots told; each = each }
    where
      told : Proc → ℕ
      told f = word (told_need known.order.procs known.needs f)

      each : (i : ℕ) (f : Proc) → slice_get known.roots i ≡ Some f → (n : ℕ) × (slice_get (root_words known.order.procs known.needs known.roots) i ≡ Some n) × HasNeed objects known.bindings.of f n
      each i f at =
          let t = fellow known.roots tasks i f (sym (the_roots objects tasks known judged).one_each) at in
          let s = served i t.0 f t.1 at in (
            s.need,
            slice_get-map told known.roots i ∙ ap (λ (o : Option Proc). option_map told o) at ∙ ap (λ (o : Option ℕ). Some (word o)) s.told ∙ ap (λ (n : ℕ). Some n) (small_word s.need (let a = s.fits in let b = s.few in omega arith)),
            s.needs,
          )
