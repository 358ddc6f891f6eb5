-- The procedures of cycles are there.
use Rattle.std.proofs.Common.{◌≡◌, inl, inr, ℕ, zero, suc, ◌+◌, ◌<◌, List, [], ◌∷◌, length, Option, Some, None, slice_get, refl, sym, ap, ◌∙◌, ◌++◌, subst, arith}
use Rattle.std.proofs.lemmas.Option.{slice_get_within}
use Rattle.rt_digraph.proofs.Lists.{get_there, get_left, get_cases, long_one}
use Rattle.rt_digraph.specs.Walks.{Has, IsCycleOf}
use Rattle.rt_tree_nodes.specs.declared.store.Proc.{Proc}
use Rattle.rt_modes.specs.Bricks.{SuppliedBrick, supplied_bricks, brick_numbered, name_in}
use Rattle.rt_object.specs.declared.object.Brick.{Brick}
use Rattle.rt_object.specs.declared.object.ObjectParts.{ObjectParts}
use Rattle.rt_object.specs.declared.object.ProcContent.{ProcContent}
use Rattle.rt_match.specs.declared.bindings.Bound.{Bound}
use Rattle.rt_graph.specs.Calls.{brick, numbered, body_in, content_at, HasBody, IsSuppliedProc, Calls, at_point, in_service}
use Rattle.rt_accept.specs.Verdicts.{untitled, titled, name_within, name_at, proc_name}
use Rattle.rt_accept.specs.Laws.{IsPrintedAs, own, supplied, CyclesAreNamed}

supplied_brick : (k : ℕ) → IsSuppliedProc k → (b : SuppliedBrick) × (brick_numbered k ≡ Some b)
supplied_brick zero h = absurd (omega (arith, h.0))
supplied_brick (suc k) h = get_there supplied_bricks k (omega (arith, h.1))

own_brick : (x : Option Brick) (p : ProcContent) → body_in (content_at x) ≡ Some p → (b : Brick) × (x ≡ Some b)
own_brick None p q = absurd cc
own_brick (Some b) p q = (b, refl)

module _ (objects : List ObjectParts) where
  own_name : (m b : ℕ) (o : ObjectParts) (d : Brick) → numbered objects m ≡ Some o → slice_get o.bricks b ≡ Some d → name_at objects m b ≡ record { title = Some o.title; name = d.name }
  own_name zero b o d p q = absurd cc
  own_name (suc m) b o d p q = ap (λ x. name_within x b) p ∙ ap (titled o.title) q

  own_printed : (f : Proc) (o : ObjectParts) (p : ProcContent) → HasBody objects f o p → IsPrintedAs objects f (proc_name objects f)
  own_printed f o p h =
      let d = own_brick (slice_get o.bricks f.brick) p h.is in
      subst (IsPrintedAs objects f) (sym (own_name f.«module» f.brick o d.0 h.of d.1)) (own h.of d.1)

  supplied_printed : (k : ℕ) → IsSuppliedProc k → IsPrintedAs objects (brick 0 k) (proc_name objects (brick 0 k))
  supplied_printed k h =
      let b = supplied_brick k h in
      subst (λ name. IsPrintedAs objects (brick 0 k) (untitled name)) (sym (ap name_in b.1)) (supplied h b.1)

  module _ (of : List (List Bound)) where
    -- what calls is there
    caller : (f g : Proc) → Calls objects of f g → IsPrintedAs objects f (proc_name objects f)
    caller f g (at_point {o = o} {p = p} c body has may) = own_printed f o p body
    caller f g (in_service {k = k} meets may) = supplied_printed k (omega (arith, meets.0), omega (arith, meets.1))

    module _ (first : Proc) (cycle : List Proc) (is : IsCycleOf (Calls objects of) first cycle) where
      -- each but the last calls the next
      at : (i : ℕ) (f : Proc) → slice_get is.turn i ≡ Some f → IsPrintedAs objects f (proc_name objects f)
      at i f q =
          let l : i < length is.turn = slice_get_within is.turn i f q in
          let n : length (is.turn ++ first ∷ []) ≡ length is.turn + 1 = long_one is.turn first in
          let g = get_there (is.turn ++ first ∷ []) (i + 1) (omega (arith, l, n)) in
          caller f g.0 (is.edges i f g.0 (ap (λ fs. slice_get fs i) is.whole ∙ get_left is.turn (first ∷ []) i f q) (ap (λ fs. slice_get fs (i + 1)) is.whole ∙ g.1))

      -- and the last is the first
      printed : (f : Proc) → Has cycle f → IsPrintedAs objects f (proc_name objects f)
      printed f h = elim (get_cases is.turn first h.0 f (ap (λ fs. slice_get fs h.0) (sym is.whole) ∙ h.1)) [
        | inl q ↦ at h.0 f q
        | inr q ↦ subst (λ g. IsPrintedAs objects g (proc_name objects g)) (sym q.1) (at 0 first is.begins)
      ]

pub are_named : CyclesAreNamed
are_named objects of roots cycle h = printed objects of h.0 cycle h.2
