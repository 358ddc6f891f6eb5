-- Which numbers are marked, and which numbers are told of marks.
use Rattle.std.proofs.Common.{◌≡◌, ◌⊎◌, inl, inr, ℕ, zero, suc, ◌+◌, ◌<◌, Bool, true, false, List, [], ◌∷◌, length, replicate, Option, Some, None, Result, Ok, Err, IfOk, refl, sym, ap, ◌∙◌, subst, arith}
use Rattle.std.specs.Prelude.{nat_lt, slice_get, slice_set, if◌then◌else◌}
use Rattle.std.proofs.lemmas.Bool.{ltb-true}
use Rattle.rt_tree_nodes.specs.Scopes.{with}
use Rattle.rt_tree_nodes.specs.declared.brick.ModuleParts.{ModuleParts}
use Rattle.rt_tree.specs.Taken.{taken}
use Rattle.rt_object.specs.Ranges.{Rise}
use Rattle.rt_compile.specs.Marks.{marked, all_marked, numbers_of}
use Rattle.rt_compile.specs.Taken.{Has, AreTaken}

abbrev IsMarked : List Bool → ℕ → Type 0
IsMarked ms k = slice_get ms k ≡ Some true

-- ---- one mark

set_here : (ms : List Bool) (k : ℕ) → k < length ms → IsMarked (slice_set ms k true) k
set_here [] k h = absurd (omega (arith, h))
set_here (m ∷ ms) zero h = refl
set_here (m ∷ ms) (suc k) h = set_here ms k (omega (arith, h))

set_other : (ms : List Bool) (k j : ℕ) → (j ≡ k → ⊥) → slice_get (slice_set ms k true) j ≡ slice_get ms j
set_other [] k j h = refl
set_other (m ∷ ms) zero zero h = absurd (h refl)
set_other (m ∷ ms) zero (suc j) h = refl
set_other (m ∷ ms) (suc k) zero h = refl
set_other (m ∷ ms) (suc k) (suc j) h = set_other ms k j (λ e. h (ap suc e))

is_either : (j k : ℕ) → (j ≡ k) ⊎ (j ≡ k → ⊥)
is_either zero zero = inl refl
is_either zero (suc k) = inr (λ e. absurd (omega (arith, e)))
is_either (suc j) zero = inr (λ e. absurd (omega (arith, e)))
is_either (suc j) (suc k) = next (is_either j k) where
  next : (j ≡ k) ⊎ (j ≡ k → ⊥) → (suc j ≡ suc k) ⊎ (suc j ≡ suc k → ⊥)
  next (inl e) = inl (ap suc e)
  next (inr h) = inr (λ e. h (omega (arith, e)))

-- where a number was marked, it and those marked before are
abbrev Grows : List Bool → List Bool → ℕ → Type 0
Grows ms us k = (k < length ms) × (us ≡ slice_set ms k true)

marked_is : (k : ℕ) (ms us : List Bool) → marked k ms ≡ Some us → Grows ms us k
marked_is k ms us = by (nat_lt k (length ms)) refl where
  by : (b : Bool) → nat_lt k (length ms) ≡ b → (if b then Some (slice_set ms k true) else None) ≡ Some us → Grows ms us k
  by true e h = (ltb-true k (length ms) e, cc)
  by false e h = absurd cc

one_to : (k : ℕ) (ms us : List Bool) (j : ℕ) → Grows ms us k → IsMarked us j → IsMarked ms j ⊎ (j ≡ k)
one_to k ms us j g h = by (is_either j k) where
  by : (j ≡ k) ⊎ (j ≡ k → ⊥) → IsMarked ms j ⊎ (j ≡ k)
  by (inl e) = inr e
  by (inr ne) = inl (sym (set_other ms k j ne) ∙ ap (λ (v : List Bool). slice_get v j) (sym g.1) ∙ h)

one_keeps : (k : ℕ) (ms us : List Bool) (j : ℕ) → Grows ms us k → IsMarked ms j → IsMarked us j
one_keeps k ms us j g h = ap (λ (v : List Bool). slice_get v j) g.1 ∙ by (is_either j k) where
  by : (j ≡ k) ⊎ (j ≡ k → ⊥) → IsMarked (slice_set ms k true) j
  by (inl e) = subst (λ i. IsMarked (slice_set ms k true) i) (sym e) (set_here ms k g.0)
  by (inr ne) = set_other ms k j ne ∙ h

one_has : (k : ℕ) (ms us : List Bool) → Grows ms us k → IsMarked us k
one_has k ms us g = ap (λ (v : List Bool). slice_get v k) g.1 ∙ set_here ms k g.0

-- ---- all marks

-- the first number was marked, then the others
pub split : (k : ℕ) (ks : List ℕ) (ms us : List Bool) → all_marked (k ∷ ks) ms ≡ Some us → (vs : List Bool) × (marked k ms ≡ Some vs) × (all_marked ks vs ≡ Some us)
split k ks ms us = by (marked k ms) refl where
  by : (o : Option (List Bool)) → marked k ms ≡ o → with o (all_marked ks) ≡ Some us → (vs : List Bool) × (marked k ms ≡ Some vs) × (all_marked ks vs ≡ Some us)
  by None e h = absurd cc
  by (Some vs) e h = (vs, e, h)

later : (j k : ℕ) (ks : List ℕ) → Has ks j → Has (k ∷ ks) j
later j k ks h = (suc h.0, h.1)

all_keep : (ks : List ℕ) (ms us : List Bool) (j : ℕ) → all_marked ks ms ≡ Some us → IsMarked ms j → IsMarked us j
all_keep [] ms us j e h = subst (λ (v : List Bool). IsMarked v j) (some e) h where
  some : Some ms ≡ Some us → ms ≡ us
  some f = cc
all_keep (k ∷ ks) ms us j e h =
    let s = split k ks ms us e in
    all_keep ks s.0 us j s.2 (one_keeps k ms s.0 j (marked_is k ms s.0 s.1) h)

first_to : (k : ℕ) (ks : List ℕ) (ms vs : List Bool) (j : ℕ) → Grows ms vs k → IsMarked vs j ⊎ Has ks j → IsMarked ms j ⊎ Has (k ∷ ks) j
first_to k ks ms vs j g (inr f) = inr (later j k ks f)
first_to k ks ms vs j g (inl m) = by (one_to k ms vs j g m) where
  by : IsMarked ms j ⊎ (j ≡ k) → IsMarked ms j ⊎ Has (k ∷ ks) j
  by (inl h) = inl h
  by (inr e) = inr (0, ap (λ i. Some i) (sym e))

all_to : (ks : List ℕ) (ms us : List Bool) (j : ℕ) → all_marked ks ms ≡ Some us → IsMarked us j → IsMarked ms j ⊎ Has ks j
all_to [] ms us j e h = inl (subst (λ (v : List Bool). IsMarked v j) (some e) h) where
  some : Some ms ≡ Some us → us ≡ ms
  some f = cc
all_to (k ∷ ks) ms us j e h =
    let s = split k ks ms us e in
    first_to k ks ms s.0 j (marked_is k ms s.0 s.1) (all_to ks s.0 us j s.2 h)

all_has : (ks : List ℕ) (ms us : List Bool) (j i : ℕ) → all_marked ks ms ≡ Some us → slice_get ks i ≡ Some j → IsMarked us j
all_has [] ms us j i e h = absurd cc
all_has (k ∷ ks) ms us j zero e h =
    let s = split k ks ms us e in
    let same : k ≡ j = cc in
    subst (λ n. IsMarked us n) same (all_keep ks s.0 us k s.2 (one_has k ms s.0 (marked_is k ms s.0 s.1)))
all_has (k ∷ ks) ms us j (suc i) e h =
    let s = split k ks ms us e in
    all_has ks s.0 us j i s.2 h

none_marked : (n j : ℕ) → IsMarked (replicate n false) j → ⊥
none_marked zero j h = absurd cc
none_marked (suc n) zero h = absurd cc
none_marked (suc n) (suc j) h = none_marked n j h

-- ---- the numbers of marks

pub told_to : (ms : List Bool) (k j i : ℕ) → slice_get (numbers_of k ms) i ≡ Some j → (a : ℕ) × (j ≡ k + a) × IsMarked ms a
told_to [] k j i h = absurd cc
told_to (true ∷ ms) k j zero h =
    let same : j ≡ k = cc in
    (0, omega (arith, same), refl)
told_to (true ∷ ms) k j (suc i) h =
    let t = told_to ms (k + 1) j i h in
    (suc t.0, omega (arith, t.1), t.2)
told_to (false ∷ ms) k j i h =
    let t = told_to ms (k + 1) j i h in
    (suc t.0, omega (arith, t.1), t.2)

told_has : (ms : List Bool) (k a : ℕ) → IsMarked ms a → Has (numbers_of k ms) (k + a)
told_has [] k a h = absurd cc
told_has (true ∷ ms) k zero h = (0, ap (λ i. Some i) (omega arith))
told_has (true ∷ ms) k (suc a) h =
    let t = told_has ms (k + 1) a h in
    let same : (k + 1) + a ≡ k + suc a = omega arith in
    subst (λ n. Has (k ∷ numbers_of (k + 1) ms) n) same (later ((k + 1) + a) k (numbers_of (k + 1) ms) t)
told_has (false ∷ ms) k zero h = absurd cc
told_has (false ∷ ms) k (suc a) h =
    let same : (k + 1) + a ≡ k + suc a = omega arith in
    subst (λ n. Has (numbers_of (k + 1) ms) n) same (told_has ms (k + 1) a h)

told_rise : (ms : List Bool) (k : ℕ) → Rise (numbers_of k ms)
told_rise [] k i j m n l a b = absurd cc
told_rise (true ∷ ms) k zero zero m n l a b = absurd (omega (arith, l))
told_rise (true ∷ ms) k zero (suc j) m n l a b =
    let t = told_to ms (k + 1) n j b in
    let same : m ≡ k = cc in
    omega (arith, t.1, same)
told_rise (true ∷ ms) k (suc i) zero m n l a b = absurd (omega (arith, l))
told_rise (true ∷ ms) k (suc i) (suc j) m n l a b = told_rise ms (k + 1) i j m n (omega (arith, l)) a b
told_rise (false ∷ ms) k i j m n l a b = told_rise ms (k + 1) i j m n l a b

-- ---- both

taken_by : (p : ModuleParts) (n : ℕ) (k : ℕ) → IsMarked (replicate n false) k ⊎ Has (taken p) k → Has (taken p) k
taken_by p n k (inl m) = absurd (none_marked n k m)
taken_by p n k (inr f) = f

marked_at : (us : List Bool) (k a : ℕ) → k ≡ 0 + a → IsMarked us a → IsMarked us k
marked_at us k a e h = let same : a ≡ k = omega (arith, e) in subst (λ i. IsMarked us i) same h

has_at : (ns : List ℕ) (k : ℕ) → Has ns (0 + k) → Has ns k
has_at ns k h = let same : 0 + k ≡ k = omega arith in subst (λ i. Has ns i) same h

pub are_taken : (p : ModuleParts) (n : ℕ) (us : List Bool) → all_marked (taken p) (replicate n false) ≡ Some us → AreTaken p (numbers_of 0 us)
are_taken p n us e = record {
  rise = told_rise us 0;
  each = λ k. (
    λ h. let t = told_to us 0 k h.0 h.1 in taken_by p n k (all_to (taken p) (replicate n false) us k e (marked_at us k t.0 t.1 t.2)),
    λ h. has_at (numbers_of 0 us) k (told_has us 0 k (all_has (taken p) (replicate n false) us k h.0 e h.1)),
  );
}

pub taken_ok : {E : Type 0} (p : ModuleParts) (n : ℕ) (us : List Bool) (r : Result (List ℕ) E) → all_marked (taken p) (replicate n false) ≡ Some us → IfOk r (λ ns. ns ≡ numbers_of 0 us) → IfOk r (AreTaken p)
taken_ok p n us (Ok ns) e h = subst (AreTaken p) (sym h) (are_taken p n us e)
taken_ok p n us (Err x) e h = tt
