-- A procedure has one need, and what follows from it.
use Rattle.std.proofs.Common.{◌≡◌, ℕ, ◌+◌, ◌≤◌, inl, inr, List, Some, None, refl, sym, ap, ◌∙◌, subst, arith}
use Rattle.rt_tree_nodes.specs.declared.store.Proc.{Proc}
use Rattle.rt_object.specs.declared.object.Call.{Call}
use Rattle.rt_object.specs.declared.object.ObjectParts.{ObjectParts}
use Rattle.rt_object.specs.declared.object.ProcContent.{ProcContent}
use Rattle.rt_match.specs.declared.bindings.Bound.{Bound}
use Rattle.rt_digraph.specs.Walks.{Has}
use Rattle.rt_digraph.proofs.Lists.{some_is}
use Rattle.rt_graph.specs.Calls.{brick, proc_at, HasBody, IsCandidate, MayCall, Calls, at_point, in_service, int_taken}
use Rattle.rt_graph.specs.Needs.{AtPoint, IsDeepest, NeedsBy, own, plain, service, HasNeed, by_callees}
use Rattle.rt_graph.proofs.Counted.{one_greatest, same_greatest}

module _ (objects : List ObjectParts) (of : List (List Bound)) where
  pub no_body : (k : ℕ) (o : ObjectParts) (p : ProcContent) → HasBody objects (brick 0 k) o p → ⊥
  no_body k o p body = let e : None ≡ Some o = body.of in cc

  pub one_object : (f : Proc) (o x : ObjectParts) (p q : ProcContent) → HasBody objects f o p → HasBody objects f x q → (o ≡ x) × (p ≡ q)
  one_object f o x p q b c =
      let s : o ≡ x = some_is o x (sym b.of ∙ c.of) in
      (s, some_is p q (sym b.is ∙ ap (λ (y : ObjectParts). proc_at y.bricks f.brick) s ∙ c.is))

  module _ (need other : Proc → ℕ) (f : Proc) (same : (g : Proc) → Calls objects of f g → need g ≡ other g) where
    point_other : (o : ObjectParts) (p : ProcContent) → HasBody objects f o p → (c : Call) (v : ℕ) → Has p.calls c → AtPoint objects of need f.«module» o c v → AtPoint objects of other f.«module» o c v
    point_other o p body c v has at = record {
      callee = at.callee;
      greatest = same_greatest (MayCall objects of f.«module» o c.target) (MayCall objects of f.«module» o c.target) need other at.callee (λ a h. h) (λ a h. h) (λ a may. same a (at_point c body has may)) at.greatest;
      sum = at.sum;
    }

    below_other : (o : ObjectParts) (p : ProcContent) → HasBody objects f o p → (w v : ℕ) → IsDeepest objects of need f.«module» o p w → IsDeepest objects of other f.«module» o p v → w ≤ v
    below_other o p body w v d e = elim d.had [
      | inl same_deep ↦ (let l = e.own in omega arith)
      | inr h ↦ (
          let at = point_other o p body h.0 w h.1 h.2 in
          let q = e.points h.0 h.1 in
          let one = one_greatest (MayCall objects of f.«module» o h.0.target) other at.callee q.1.callee at.greatest q.1.greatest in
          let a = at.sum in let b = q.1.sum in let l = q.2 in omega arith)
    ]

  one_by : (need other : Proc → ℕ) (f : Proc) → ((g : Proc) → Calls objects of f g → need g ≡ other g) → (m n : ℕ) → NeedsBy objects of need f m → NeedsBy objects of other f n → m ≡ n
  one_by need other f same m n (own {o = o} {p = p} {w = w} b d e) (own {o = x} {p = q} {w = v} c g h) =
      let s = one_object f o x p q b c in
      let g2 : IsDeepest objects of other f.«module» o p v = subst (λ (y : ProcContent). IsDeepest objects of other f.«module» o y v) (sym s.1) (subst (λ (y : ObjectParts). IsDeepest objects of other f.«module» y q v) (sym s.0) g) in
      let up = below_other need other f same o p b w v d g2 in
      let down = below_other other need f (λ k c. sym (same k c)) o p b v w g2 d in
      let locals : p.locals ≡ q.locals = ap (λ (y : ProcContent). y.locals) s.1 in
      omega arith
  one_by need other f same m n (own {o = o} {p = p} b d e) (plain {k = k} h meets) = absurd (no_body k o p b)
  one_by need other f same m n (own {o = o} {p = p} b d e) (service {k = k} meets g) = absurd (no_body k o p b)
  one_by need other f same m n (plain {k = k} h meets) (own {o = o} {p = p} b d e) = absurd (no_body k o p b)
  one_by need other f same m n (plain h meets) (plain g others) = refl
  one_by need other f same m n (plain h meets) (service others g) = absurd (meets others)
  one_by need other f same m n (service {k = k} meets g) (own {o = o} {p = p} b d e) = absurd (no_body k o p b)
  one_by need other f same m n (service meets g) (plain h others) = absurd (others meets)
  one_by need other f same m n (service {w = w} meets g) (service {w = v} others h) =
      ap (λ (k : ℕ). 2 + k) (one_greatest (IsCandidate objects of int_taken) other w v (same_greatest (IsCandidate objects of int_taken) (IsCandidate objects of int_taken) need other w (λ a c. c) (λ a c. c) (λ a c. same a (in_service meets c)) g) h)

  pub one_need : (f : Proc) (m n : ℕ) → HasNeed objects of f m → HasNeed objects of f n → m ≡ n
  one_need f m n (by_callees need callees a) (by_callees other others b) = one_by need other f (λ g c. one_need g (need g) (other g) (callees g c) (others g c)) m n a b
