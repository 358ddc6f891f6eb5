-- The sets of locals that have a value at labels, one after the other, and what is made of a part of a body.
use Rattle.std.proofs.Common.{◌≡◌, ◌⊎◌, inl, inr, ℕ, zero, suc, ◌+◌, ◌<◌, ◌≤◌, ◌==◌, Bool, true, false, List, [], ◌∷◌, ◌++◌, length, replicate, Option, Some, arith, append_assoc, refl, sym, ap, ◌∙◌, subst}
use Rattle.std.specs.Prelude.{slice_get, nat_lt}
use Rattle.std.proofs.lemmas.Bool.Decides.{nat_tests}
use Rattle.std.proofs.lemmas.List.{length-append}
use Rattle.rt_meaning_laws.specs.Trees.{Started}

abbrev pub Sets : Type 0
Sets = ℕ → Option Started

-- ---- sets at labels

-- the sets at the labels from n on
abbrev pub SetsAt : Sets → ℕ → List Started → Type 0
SetsAt at n [] = Unit {0}
SetsAt at n (x ∷ xs) = (at n ≡ Some x) × SetsAt at (suc n) xs

module _ (at : Sets) where
  first_sets : (n : ℕ) (xs ys : List Started) → SetsAt at n (xs ++ ys) → SetsAt at n xs
  first_sets n [] ys h = tt
  first_sets n (x ∷ xs) ys h = (h.0, first_sets (suc n) xs ys h.1)

  last_sets : (n : ℕ) (xs ys : List Started) → SetsAt at n (xs ++ ys) → SetsAt at (n + length xs) ys
  last_sets n [] ys h = subst (λ (k : ℕ). SetsAt at k ys) (omega arith) h
  last_sets n (x ∷ xs) ys h = subst (λ (k : ℕ). SetsAt at k ys) (omega arith) (last_sets (suc n) xs ys h.1)

  -- so many labels with one set
  abbrev pub AllAt : ℕ → ℕ → Started → Type 0
  AllAt n m v = (l : ℕ) → n ≤ l → l < n + m → at l ≡ Some v

  all_at : (n m : ℕ) (v : Started) → SetsAt at n (replicate m v) → AllAt n m v
  all_at n zero v h l a b = absurd (grind arith)
  all_at n (suc m) v h l a b = by_test (n == l) refl (λ p. all_at (suc n) m v h.1 l p (omega (arith, b))) where
    by_test : (c : Bool) → (n == l) ≡ c → (suc n ≤ l → at l ≡ Some v) → at l ≡ Some v
    by_test true e go = let same : n ≡ l = grind (arith, nat_tests) in ap at (sym same) ∙ h.0
    by_test false e go = go (grind (arith, nat_tests))

-- ---- the sets of all labels, by their numbers

get_behind : {A : Type 0} (xs : List A) (x : A) (ys : List A) → slice_get (xs ++ x ∷ ys) (length xs) ≡ Some x
get_behind [] x ys = refl
get_behind (z ∷ xs) x ys = get_behind xs x ys

sets_behind : (xs ys : List Started) → SetsAt (slice_get (xs ++ ys)) (length xs) ys
sets_behind xs [] = tt
sets_behind xs (y ∷ ys) = (
  get_behind xs y ys,
  subst (λ (k : ℕ). SetsAt (slice_get (xs ++ y ∷ ys)) k ys) (length-append xs (y ∷ []) ∙ omega arith)
      (subst (λ (zs : List Started). SetsAt (slice_get zs) (length (xs ++ y ∷ [])) ys) (append_assoc xs (y ∷ []) ys) (sets_behind (xs ++ y ∷ []) ys)),
)

pub sets_there : (xs : List Started) → SetsAt (slice_get xs) 0 xs
sets_there xs = sets_behind [] xs

pub got_below : {A : Type 0} (xs : List A) (k : ℕ) (x : A) → slice_get xs k ≡ Some x → k < length xs
got_below [] k x e = absurd cc
got_below (y ∷ ys) zero x e = omega arith
got_below (y ∷ ys) (suc k) x e = let h = got_below ys k x e in omega (arith, h)

-- ---- parts

-- A part with so many labels, from one number to another: the sets at its labels; each label stands in it; and it names locals
-- where these have a value, whatever the sets at other labels are.
pub record Made (from to inner : ℕ) (stands : ℕ → Type 0) (named : Sets → Type 0) : Type 0 where
  pub sets : List Started
  pub count : length sets ≡ inner
  pub labels : to ≡ from + inner
  pub stand : (l : ℕ) → from ≤ l → l < from + inner → stands l
  pub naming : (at : Sets) → SetsAt at from sets → named at

pub below_or : (l m : ℕ) → (l < m) ⊎ (m ≤ l)
below_or l m = by_test (nat_lt l m) refl where
  by_test : (c : Bool) → nat_lt l m ≡ c → (l < m) ⊎ (m ≤ l)
  by_test true e = inl (grind (arith, nat_tests))
  by_test false e = inr (grind (arith, nat_tests))

-- a part without a label
pub made_alone : {stands : ℕ → Type 0} {named : Sets → Type 0} (from to : ℕ) → to ≡ from → ((at : Sets) → named at) → Made from to 0 stands named
made_alone from to e h = record { sets = []; count = refl; labels = omega (arith, e); stand = λ l a b. absurd (grind arith); naming = λ at z. h at }

pub made_as : {stands others : ℕ → Type 0} {named so : Sets → Type 0} (from to inner : ℕ) → Made from to inner stands named → ((l : ℕ) → stands l → others l) → ((at : Sets) → named at → so at) → Made from to inner others so
made_as from to inner h f g = record { sets = h.sets; count = h.count; labels = h.labels; stand = λ l a b. f l (h.stand l a b); naming = λ at z. g at (h.naming at z) }

-- the same from an equal number on
pub made_from : {stands : ℕ → Type 0} {named : Sets → Type 0} (a b to inner : ℕ) → a ≡ b → Made a to inner stands named → Made b to inner stands named
made_from {stands = stands} {named = named} a b to inner e h = subst (λ (n : ℕ). Made n to inner stands named) e h

-- the same with an equal number of labels
pub made_counted : {stands : ℕ → Type 0} {named : Sets → Type 0} (from to i j : ℕ) → i ≡ j → Made from to i stands named → Made from to j stands named
made_counted {stands = stands} {named = named} from to i j e h = subst (λ (n : ℕ). Made from to n stands named) e h

-- one part and another behind it
pub made_then : {first second stands : ℕ → Type 0} {one other named : Sets → Type 0} (a b c i j : ℕ) → Made a b i first one → Made b c j second other → ((l : ℕ) → first l → stands l) → ((l : ℕ) → second l → stands l)
    → ((at : Sets) → one at → other at → named at) → Made a c (i + j) stands named
made_then {stands = stands} a b c i j h g f k m = record {
  sets = h.sets ++ g.sets;
  count = length-append h.sets g.sets ∙ omega (arith, h.count, g.count);
  labels = omega (arith, h.labels, g.labels);
  stand = λ l x y. by_half l x y (below_or l (a + i));
  naming = λ at z. m at (h.naming at (first_sets at a h.sets g.sets z)) (g.naming at (subst (λ (n : ℕ). SetsAt at n g.sets) (omega (arith, h.labels, h.count)) (last_sets at a h.sets g.sets z)));
}
  where
    by_half : (l : ℕ) → a ≤ l → l < a + (i + j) → (l < a + i) ⊎ (a + i ≤ l) → stands l
    by_half l x y (inl p) = f l (h.stand l x p)
    by_half l x y (inr p) = k l (g.stand l (omega (arith, p, h.labels)) (omega (arith, y, h.labels)))

-- so many labels with one set, and a part behind them
pub made_labelled : {inside stands : ℕ → Type 0} {named so : Sets → Type 0} (a b c i j : ℕ) (v : Started) → b ≡ a + i → Made b c j inside named → ((l : ℕ) → a ≤ l → l < a + i → stands l) → ((l : ℕ) → inside l → stands l)
    → ((at : Sets) → AllAt at a i v → named at → so at) → Made a c (i + j) stands so
made_labelled a b c i j v e h own f g =
    made_then {first = λ (l : ℕ). (a ≤ l) × (l < a + i)} {one = λ (at : Sets). AllAt at a i v} a b c i j
    (record { sets = replicate i v; count = copies i; labels = e; stand = λ l x y. (x, y); naming = λ at z. all_at at a i v z }) h (λ l x. own l x.0 x.1) f g where
      copies : (n : ℕ) → length (replicate n v) ≡ n
      copies zero = refl
      copies (suc n) = ap suc (copies n)
