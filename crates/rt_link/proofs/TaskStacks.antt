-- The stack bricks of tasks that have roots.
use Rattle.std.proofs.Common.{◌≡◌, ◌≤◌, ℕ, zero, suc, List, [], ◌∷◌, length, Option, Some, None, slice_get, refl, ap, ◌∙◌, subst, sym, arith}
use Rattle.rt_tree_nodes.specs.declared.store.Proc.{Proc}
use Rattle.rt_object.specs.declared.object.Content.TheVariants as content
use Rattle.rt_object.specs.declared.object.ObjectParts.{ObjectParts}
use Rattle.rt_system.specs.declared.parts.Task.{Task}
use Rattle.rt_digraph.proofs.Lists.{no_element, some_is}
use Rattle.rt_graph.specs.Nodes.{with_one}
use Rattle.rt_graph.specs.Tasks.{IsFirstEntry, IsStackNamed, AreRoots}
use Rattle.rt_graph.proofs.Tasked.{entry_to}
use Rattle.rt_link.specs.VerdictLaws.{AreStacks}
use Rattle.rt_link.specs.Verdict.{stack_in, stack_brick, stack_bricks}

module _ (objects : List ObjectParts) where
  brick_is : (name : List ℕ) (f : Proc) (words : ℕ) → IsFirstEntry objects name f (content.Stack words) → stack_brick objects name ≡ Some f
  brick_is name f words h = ap stack_in (entry_to objects name f (content.Stack words) h)

  -- the list of a first task that has a stack
  first_is : (t : Task) (ts : List Task) (f : Proc) → stack_brick objects t.stack ≡ Some f → stack_bricks objects (t ∷ ts) ≡ f ∷ stack_bricks objects ts
  first_is t ts f e = ap (λ (o : Option Proc). with_one o (stack_bricks objects ts)) e

  abbrev Each : List Task → Type 0
  Each ts = (i : ℕ) (t : Task) → slice_get ts i ≡ Some t → (words : ℕ) × IsStackNamed objects t.stack words

  behind : (t : Task) (ts : List Task) → Each (t ∷ ts) → Each ts
  behind t ts h i u at = h (suc i) u at

  as_many : (ts : List Task) → Each ts → length (stack_bricks objects ts) ≡ length ts
  as_many [] h = refl
  as_many (t ∷ ts) h =
      let s = h 0 t refl in
      let f = s.1 in
      ap (λ (l : List Proc). length l) (first_is t ts f.0 (brick_is t.stack f.0 s.0 f.1)) ∙ ap suc (as_many ts (behind t ts h))

  at_place : (ts : List Task) → Each ts → (i : ℕ) (t : Task) → slice_get ts i ≡ Some t → (f : Proc) × (words : ℕ) × (slice_get (stack_bricks objects ts) i ≡ Some f) × IsFirstEntry objects t.stack f (content.Stack words)
  at_place [] h i t e = absurd (no_element i t e)
  at_place (u ∷ ts) h zero t e =
      let s = h 0 t e in
      let f = s.1 in
      let same = some_is u t e in
      (f.0, s.0, ap (λ (l : List Proc). slice_get l 0) (first_is u ts f.0 (subst (λ (x : Task). stack_brick objects x.stack ≡ Some f.0) (sym same) (brick_is t.stack f.0 s.0 f.1))), f.1)
  at_place (u ∷ ts) h (suc i) t e =
      let r = at_place ts (behind u ts h) i t e in
      let s = h 0 u refl in
      let f = s.1 in
      (r.0, r.1, ap (λ (l : List Proc). slice_get l (suc i)) (first_is u ts f.0 (brick_is u.stack f.0 s.0 f.1)) ∙ r.2, r.3)

pub each_stack : (objects : List ObjectParts) (tasks : List Task) (roots : List Proc) → AreRoots objects tasks roots → AreStacks objects tasks (stack_bricks objects tasks)
each_stack objects tasks roots h = record { one_each = as_many objects tasks each; each = at_place objects tasks each }
  where
    each : Each objects tasks
    each i t at = let r = h.each i t at in (r.1, (r.2).stack)

one_more : (o : Option Proc) (fs : List Proc) → length (with_one o fs) ≤ suc (length fs)
one_more None fs = omega arith
one_more (Some f) fs = omega arith

pub few_stacks : (objects : List ObjectParts) (tasks : List Task) → length (stack_bricks objects tasks) ≤ length tasks
few_stacks objects [] = omega arith
few_stacks objects (t ∷ ts) = omega (arith, few_stacks objects ts, one_more (stack_brick objects t.stack) (stack_bricks objects ts))
