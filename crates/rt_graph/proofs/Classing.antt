-- Classes, told text by text.
use Rattle.std.proofs.Common.{◌≡◌, ℕ, ◌+◌, ◌<◌, ◌≤◌, ◌⊎◌, inl, inr, List, [], ◌∷◌, ◌++◌, length, Option, Some, None, cond, Bool, true, false, slice_get, refl, sym, ap, ◌∙◌, subst, arith}
use Rattle.std.specs.Str.{bytes_eq}
use Rattle.std.proofs.lemmas.Option.{slice_get_within}
use Rattle.std.proofs.lemmas.Slice.Eq.{bytes_eq-Decides}
use Rattle.rt_digraph.proofs.Lists.{some_is, get_left, get_end}
use Rattle.rt_digraph.proofs.Moves.{same_or_not}
use Rattle.rt_graph.specs.Classes.{ClassMap, class_in, AreApart, Keeps, IsToldOf, AreClasses}

abbrev pub AreTold : List (Option (List ℕ)) → ClassMap → List (Option ℕ) → ℕ → Type 0
AreTold texts map of count = (n : ℕ) (t : Option (List ℕ)) → n < count → slice_get texts n ≡ Some t → (c : Option ℕ) × (slice_get of n ≡ Some c) × IsToldOf map t c

told_kept : (old new : ClassMap) (t : Option (List ℕ)) (c : Option ℕ) → Keeps old new → IsToldOf old t c → IsToldOf new t c
told_kept old new None c keeps h = h
told_kept old new (Some t) c keeps h = (h.0, keeps t h.0 h.1, h.2)

pub told_more : (texts : List (Option (List ℕ))) (old new : ClassMap) (of after : List (Option ℕ)) (i : ℕ) (text : Option (List ℕ)) (class : Option ℕ)
    → length of ≡ i → slice_get texts i ≡ Some text → AreTold texts old of i → Keeps old new → IsToldOf new text class → after ≡ of ++ class ∷ [] → AreTold texts new after (i + 1)
told_more texts old new of after i text class long at below keeps told e n t l there = elim (same_or_not n i) [
  | inl same ↦ (
      let is : text ≡ t = some_is text t (sym at ∙ subst (λ (k : ℕ). slice_get texts k ≡ Some t) same there) in
      (class, subst (λ (xs : List (Option ℕ)). slice_get xs n ≡ Some class) (sym e) (subst (λ (k : ℕ). slice_get (of ++ class ∷ []) k ≡ Some class) (long ∙ sym same) (get_end of class)), subst (λ (x : Option (List ℕ)). IsToldOf new x class) is told))
  | inr other ↦ (
      let h = below n t (less n i l other) there in
      (h.0, subst (λ (xs : List (Option ℕ)). slice_get xs n ≡ Some h.0) (sym e) (get_left of (class ∷ []) n h.0 h.1), told_kept old new t h.0 keeps h.2))
]
  where
    less : (n i : ℕ) → n < i + 1 → (n ≡ i → ⊥) → n < i
    less n i l other = grind (arith, l, other)

pub all_told : (texts : List (Option (List ℕ))) (map : ClassMap) (of : List (Option ℕ)) (count i : ℕ) → AreApart map count → count ≤ i → i ≡ length texts → length of ≡ i → AreTold texts map of i → AreClasses texts map of count
all_told texts map of count i apart few e long told = record {
  apart = apart;
  size = long ∙ e;
  few = omega arith;
  each = λ n t at. told n t (let l = slice_get_within texts n t at in omega arith) at;
}

-- ---- a new class

module _ (old new : ClassMap) (text : List ℕ) (class : ℕ) (noted : (t : List ℕ) → class_in new t ≡ cond (bytes_eq text t) (Some class) (class_in old t)) where
  same_text : (t : List ℕ) → text ≡ t → class_in new t ≡ Some class
  same_text t e = noted t ∙ ap (λ (b : Bool). cond b (Some class) (class_in old t)) ((bytes_eq-Decides text t).1 e)

  other_text : (t : List ℕ) → bytes_eq text t ≡ false → class_in new t ≡ class_in old t
  other_text t e = noted t ∙ ap (λ (b : Bool). cond b (Some class) (class_in old t)) e

  pub new_here : class_in new text ≡ Some class
  new_here = same_text text refl

  pub new_keeps : class_in old text ≡ None → Keeps old new
  new_keeps none t c e = by (bytes_eq text t) refl
    where
      by : (b : Bool) → bytes_eq text t ≡ b → class_in new t ≡ Some c
      by true q = absurd (let s : text ≡ t = (bytes_eq-Decides text t).0 q in let f : class_in old t ≡ None = subst (λ (x : List ℕ). class_in old x ≡ None) s none in cc)
      by false q = other_text t q ∙ e

  pub new_apart : AreApart old class → AreApart new (class + 1)
  new_apart apart = record { one = one; below = below }
    where
      either : (t : List ℕ) (c : ℕ) → class_in new t ≡ Some c → ((text ≡ t) × (class ≡ c)) ⊎ (class_in old t ≡ Some c)
      either t c e = by (bytes_eq text t) refl
        where
          by : (b : Bool) → bytes_eq text t ≡ b → ((text ≡ t) × (class ≡ c)) ⊎ (class_in old t ≡ Some c)
          by true q = (let s : text ≡ t = (bytes_eq-Decides text t).0 q in inl (s, some_is class c (sym (same_text t s) ∙ e)))
          by false q = inr (sym (other_text t q) ∙ e)

      below : (t : List ℕ) (c : ℕ) → class_in new t ≡ Some c → c < class + 1
      below t c e = elim (either t c e) [ inl h ↦ (let s = h.1 in omega arith) | inr h ↦ (let l = apart.below t c h in omega arith) ]

      one : (t u : List ℕ) (c : ℕ) → class_in new t ≡ Some c → class_in new u ≡ Some c → t ≡ u
      one t u c e f = elim (either t c e) [
        | inl h ↦ elim (either u c f) [
          | inl k ↦ sym h.0 ∙ k.0
          | inr k ↦ absurd (let l = apart.below u c k in let s = h.1 in omega arith)
        ]
        | inr h ↦ elim (either u c f) [
          | inl k ↦ absurd (let l = apart.below t c h in let s = k.1 in omega arith)
          | inr k ↦ apart.one t u c h k
        ]
      ]
