-- Numbers that rise, one after another.
use Rattle.std.proofs.Common.{◌≡◌, ℕ, ◌+◌, ◌<◌, ◌≤◌, inl, inr, Some, List, [], ◌∷◌, ◌++◌, length, take, drop, get_or, sym, ap, subst, ◌∙◌, arith}
use Rattle.std.specs.List.{slice_get}
use Rattle.std.proofs.lemmas.List.{take_more, drop_more, take-append-drop}
use Rattle.rt_object.specs.Ranges.{Rise}
use Rattle.rt_object.proofs.Differing.{at_push, behind_at, rise_push, rise_behind}

abbrev pub AreBelow : List ℕ → ℕ → Type 0
AreBelow ns n = (i m : ℕ) → slice_get ns i ≡ Some m → m < n

-- the numbers rise, and those greater than all of them are just those from the bound on
pub record RiseTo (ns : List ℕ) (bound : ℕ) : Type 0 where
  pub rise : Rise ns
  pub least : (n : ℕ) → AreBelow ns n → bound ≤ n
  pub below : (n : ℕ) → bound ≤ n → AreBelow ns n

push_rise : (ns : List ℕ) (x least : ℕ) → RiseTo ns least → least ≤ x → RiseTo (ns ++ x ∷ []) (x + 1)
push_rise ns x least h few = record {
  rise = rise_push ns x h.rise (h.below x few);
  least = λ n all. let last = all (length ns) x (behind_at ns [] x) in omega arith;
  below = λ n more i m e. elim (at_push ns x m i e) [ inl k ↦ let less = h.below x few i m k in omega arith | inr k ↦ let same = k.1 in omega arith ];
}

-- a number more, which is no less than the least
pub rise_more : (ns : List ℕ) (i d least : ℕ) → i < length ns → RiseTo (take i ns) least → least ≤ get_or ns i d → RiseTo (take (i + 1) ns) (get_or ns i d + 1)
rise_more ns i d least within h few = subst (λ t. RiseTo t (get_or ns i d + 1)) (sym (take_more ns i d within)) (push_rise (take i ns) (get_or ns i d) least h few)

-- where one is less, the numbers don't rise
pub not_rising : (ns : List ℕ) (i d least : ℕ) → i < length ns → RiseTo (take i ns) least → get_or ns i d < least → Rise ns → ⊥
not_rising ns i d least within h less rise =
    let split : ns ≡ take i ns ++ get_or ns i d ∷ drop (i + 1) ns = sym (take-append-drop i ns) ∙ ap (λ x. take i ns ++ x) (drop_more ns i d within) in
    let few = h.least (get_or ns i d) (rise_behind (take i ns) (drop (i + 1) ns) (get_or ns i d) (subst Rise split rise)) in
    absurd (omega arith)
