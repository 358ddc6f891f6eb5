-- Some numbers, each once and rising.
use Rattle.std.proofs.Common.{◌≡◌, ◌⊎◌, inl, inr, ℕ, zero, suc, ◌+◌, ◌<◌, ◌≤◌, Bool, true, false, List, [], ◌∷◌, Some, refl, sym, ap, subst, arith}
use Rattle.std.specs.Prelude.{slice_get, ◌==◌}
use Rattle.std.proofs.lemmas.Bool.Decides.{nat_tests}
use Rattle.rt_bricks_laws.proofs.AllLists.{some_is, no_some}
use Rattle.rt_object.specs.Ranges.{Rise}
use Rattle.rt_tree.specs.Taken.{taken}
use Rattle.rt_tree_nodes.specs.declared.brick.ModuleParts.{ModuleParts}
use Rattle.rt_compile.specs.Taken.{Has, AreTaken}

-- ---- whether a number is among some

same_or : (a b : ℕ) → (a ≡ b) ⊎ (a ≡ b → ⊥)
same_or a b = by_test (a == b) refl where
  by_test : (t : Bool) → (a == b) ≡ t → (a ≡ b) ⊎ (a ≡ b → ⊥)
  by_test true e = inl (grind (arith, nat_tests))
  by_test false e = inr (λ same. grind (arith, nat_tests))

has_or : (ts : List ℕ) (k : ℕ) → Has ts k ⊎ (Has ts k → ⊥)
has_or [] k = inr (λ h. no_some k h.1)
has_or (t ∷ ts) k = by_first (same_or t k) (has_or ts k) where
  by_first : (t ≡ k) ⊎ (t ≡ k → ⊥) → Has ts k ⊎ (Has ts k → ⊥) → Has (t ∷ ts) k ⊎ (Has (t ∷ ts) k → ⊥)
  by_first (inl e) r = inl (0, ap (λ (x : ℕ). Some x) e)
  by_first (inr other) (inl h) = inl (suc h.0, h.1)
  by_first (inr other) (inr none) = inr (λ h. neither h.0 h.1) where
    neither : (i : ℕ) → slice_get (t ∷ ts) i ≡ Some k → ⊥
    neither zero e = other (some_is t k e)
    neither (suc i) e = none (i, e)

-- ---- those among some, from one number on

record Among (ts : List ℕ) (low high : ℕ) : Type 0 where
  all : List ℕ
  rise : Rise all
  are : (k : ℕ) → Has all k → (low ≤ k) × Has ts k
  each : (k : ℕ) → low ≤ k → k < high → Has ts k → Has all k

no_rise : Rise []
no_rise i j m n l e g = no_some m e

rise_more : (k : ℕ) (ns : List ℕ) → Rise ns → ((n : ℕ) → Has ns n → k < n) → Rise (k ∷ ns)
rise_more k ns h above zero zero m n l e g = absurd (omega (arith, l))
rise_more k ns h above zero (suc j) m n l e g = subst (λ (x : ℕ). x < n) (some_is k m e) (above n (j, g))
rise_more k ns h above (suc i) zero m n l e g = absurd (omega (arith, l))
rise_more k ns h above (suc i) (suc j) m n l e g = h i j m n (omega (arith, l)) e g

with_first : (ts : List ℕ) (low high : ℕ) → Has ts low → Among ts (low + 1) high → Among ts low high
with_first ts low high here a = record {
  all = low ∷ a.all;
  rise = rise_more low a.all a.rise (λ n h. let l = (a.are n h).0 in omega (arith, l));
  are = λ k h. by_place k h.0 h.1;
  each = λ k l m h. elim (same_or low k) [ inl e ↦ (0, ap (λ (x : ℕ). Some x) e) | inr other ↦ (let r = a.each k (higher k l other) m h in (suc r.0, r.1)) ];
} where
  by_place : (k i : ℕ) → slice_get (low ∷ a.all) i ≡ Some k → (low ≤ k) × Has ts k
  by_place k zero e = let same : low ≡ k = some_is low k e in (omega (arith, same), subst (Has ts) same here)
  by_place k (suc i) e = let r = a.are k (i, e) in (omega (arith, r.0), r.1)

  higher : (k : ℕ) → low ≤ k → (low ≡ k → ⊥) → low + 1 ≤ k
  higher k l other = omega (arith, l, other)

without_first : (ts : List ℕ) (low high : ℕ) → (Has ts low → ⊥) → Among ts (low + 1) high → Among ts low high
without_first ts low high none a = record {
  all = a.all;
  rise = a.rise;
  are = λ k h. let r = a.are k h in (omega (arith, r.0), r.1);
  each = λ k l m h. elim (same_or low k) [ inl e ↦ absurd (none (subst (Has ts) (sym e) h)) | inr other ↦ a.each k (higher k l other) m h ];
} where
  higher : (k : ℕ) → low ≤ k → (low ≡ k → ⊥) → low + 1 ≤ k
  higher k l other = omega (arith, l, other)

among : (ts : List ℕ) (low count : ℕ) → Among ts low (low + count)
among ts low zero = record { all = []; rise = no_rise; are = λ k h. no_some k h.1; each = λ k l m h. absurd (omega (arith, l, m)) }
among ts low (suc count) =
    let rest : Among ts (low + 1) (low + suc count) = subst (Among ts (low + 1)) (let e : (low + 1) + count ≡ low + suc count = omega arith in e) (among ts (low + 1) count) in
    elim (has_or ts low) [ inl here ↦ with_first ts low (low + suc count) here rest | inr none ↦ without_first ts low (low + suc count) none rest ]

-- ---- all of them

behind : List ℕ → ℕ
behind [] = 0
behind (t ∷ ts) = (t + 1) + behind ts

is_before : (ts : List ℕ) (i k : ℕ) → slice_get ts i ≡ Some k → k < behind ts
unfolding behind
is_before [] i k e = no_some k e
is_before (t ∷ ts) zero k e = let same : t ≡ k = some_is t k e in omega (arith, same)
is_before (t ∷ ts) (suc i) k e = let l = is_before ts i k e in omega (arith, l)

pub are_taken : (p : ModuleParts) → (ns : List ℕ) × AreTaken p ns
are_taken p =
    let ts : List ℕ = taken p in
    let a = among ts 0 (behind ts) in
    (a.all, record { rise = a.rise; each = λ k. ((λ h. (a.are k h).1), (λ h. a.each k (omega arith) (let l = is_before ts h.0 k h.1 in omega (arith, l)) h)) })
