-- Lists that begin others, and lists of numbers in which each stands once.
use Rattle.std.proofs.Common.{◌≡◌, ℕ, zero, suc, ◌+◌, ◌<◌, ◌≤◌, Bool, true, false, ◌||◌, if◌then◌else◌, ◌⊎◌, inl, inr, eqb, List, [], ◌∷◌, ◌++◌, length, Some, take, refl, ap, sym, ◌∙◌, arith, append_assoc}
use Rattle.std.specs.List.{slice_get, list_any, IsDistinct, AllByRecursion}
use Rattle.std.proofs.lemmas.List.{append-nil, length-append, take-append-le}
use Rattle.std.proofs.lemmas.Bool.{eqb-true}
use Rattle.std.proofs.lemmas.Bool.Decides.{nat_tests}
use Rattle.std.proofs.lemmas.Map.Keys.{IsDistinct-cons, IsDistinct-head, IsDistinct-tail}
use Rattle.std.proofs.lemmas.Map.Steps.{length-le_from_distinct_below}
use Rattle.rt_modes.specs.FullMode.{with_one, with_new}

-- xs begins ys
pub record Begins (xs ys : List ℕ) : Type 0 where
  pub rest : List ℕ
  pub is : ys ≡ xs ++ rest

pub begins_itself : (xs : List ℕ) → Begins xs xs
begins_itself xs = record { rest = []; is = sym (append-nil xs) }

pub nothing_begins : (xs : List ℕ) → Begins [] xs
nothing_begins xs = record { rest = xs; is = refl }

pub begins_on : (xs ys zs : List ℕ) → Begins xs ys → Begins ys zs → Begins xs zs
begins_on xs ys zs p q = record { rest = p.rest ++ q.rest; is = q.is ∙ rw (p.is) (append_assoc xs p.rest q.rest) }

pub no_shorter : (xs ys : List ℕ) → Begins xs ys → length xs ≤ length ys
no_shorter xs ys p = let e : length ys ≡ length xs + length p.rest = ap length p.is ∙ length-append xs p.rest in omega arith

none_of : (xs : List ℕ) → length xs ≡ 0 → xs ≡ []
none_of [] e = refl
none_of (x ∷ xs) e = absurd (omega arith)

pub same : (xs ys : List ℕ) → Begins xs ys → Begins ys xs → xs ≡ ys
same xs ys p q =
    let e : length ys ≡ length xs + length p.rest = ap length p.is ∙ length-append xs p.rest in
    let h = no_shorter ys xs q in
    let none : length p.rest ≡ 0 = omega arith in
    sym (p.is ∙ rw (none_of p.rest none) (append-nil xs))

-- what stands at a place of the one stands there in the other
pub get_again : (xs ys : List ℕ) (i k : ℕ) → Begins xs ys → Some k ≡ slice_get xs i → Some k ≡ slice_get ys i
get_again xs ys i k p e = rw (p.is) (at_append xs p.rest i k e)
  where
    at_append : (xs zs : List ℕ) (i k : ℕ) → Some k ≡ slice_get xs i → Some k ≡ slice_get (xs ++ zs) i
    at_append [] zs i k e = absurd (cc)
    at_append (x ∷ xs) zs zero k e = e
    at_append (x ∷ xs) zs (suc i) k e = at_append xs zs i k e

pub take_again : (xs ys : List ℕ) (n : ℕ) → Begins xs ys → n ≤ length xs → take n ys ≡ take n xs
take_again xs ys n p h = rw (p.is) (take-append-le n xs p.rest h)

-- each number stands once, and is below n
pub record OnceBelow (n : ℕ) (ks : List ℕ) : Type 0 where
  pub once : IsDistinct eqb ks
  pub below : AllByRecursion (λ k. k < n) ks

either_of : (a b : Bool) → (a || b) ≡ true → (a ≡ true) ⊎ (b ≡ true)
either_of true b e = inl refl
either_of false b e = inr e

neither_of : (a b : Bool) → (a || b) ≡ false → (a ≡ false) × (b ≡ false)
neither_of true b e = absurd (cc)
neither_of false b e = (refl, e)

every : (n q : ℕ) (ks : List ℕ) → AllByRecursion (λ k. k < n) ks → list_any (eqb q) ks ≡ true → q < n
every n q [] h e = absurd (cc)
every n q (k ∷ ks) h e = elim (either_of (eqb q k) (list_any (eqb q) ks) e) [
  | inl f ↦ rw (eqb-true q k f) (h.0)
  | inr f ↦ every n q ks h.1 f
]

pub few : (n : ℕ) (ks : List ℕ) → OnceBelow n ks → length ks ≤ n
few n ks h = length-le_from_distinct_below ks n h.once (λ q e. every n q ks h.below e)

apart : (k x : ℕ) (ks : List ℕ) → eqb x k ≡ false → AllByRecursion (λ y. eqb x y ≡ false) ks → AllByRecursion (λ y. eqb x y ≡ false) (ks ++ k ∷ [])
apart k x [] e h = (e, tt)
apart k x (y ∷ ks) e h = (h.0, apart k x ks e h.1)

turned : (k x : ℕ) → eqb k x ≡ false → eqb x k ≡ false
turned k x e = grind (arith, nat_tests)

-- a number that is not among them is put behind them
once_more : (k : ℕ) (ks : List ℕ) → list_any (eqb k) ks ≡ false → IsDistinct eqb ks → IsDistinct eqb (ks ++ k ∷ [])
once_more k [] e h = IsDistinct-cons eqb k [] tt h
once_more k (x ∷ ks) e h = let f = neither_of (eqb k x) (list_any (eqb k) ks) e in
    IsDistinct-cons eqb x (ks ++ k ∷ []) (apart k x ks (turned k x f.0) (IsDistinct-head eqb x ks h)) (once_more k ks f.1 (IsDistinct-tail eqb x ks h))

below_more : (n k : ℕ) (ks : List ℕ) → k < n → AllByRecursion (λ k. k < n) ks → AllByRecursion (λ k. k < n) (ks ++ k ∷ [])
below_more n k [] e h = (e, tt)
below_more n k (x ∷ ks) e h = (h.0, below_more n k ks e h.1)

begins_with_one : (ks : List ℕ) (k : ℕ) → Begins ks (with_one ks k)
begins_with_one ks k = elim (list_any (eqb k) ks) as (λ b. Begins ks (if b then ks else ks ++ k ∷ [])) [ true ↦ begins_itself ks | false ↦ record { rest = k ∷ []; is = refl } ]

once_with_one : (n : ℕ) (ks : List ℕ) (k : ℕ) → k < n → OnceBelow n ks → OnceBelow n (with_one ks k)
once_with_one n ks k h o = by (list_any (eqb k) ks) refl
  where
    by : (b : Bool) → list_any (eqb k) ks ≡ b → OnceBelow n (if b then ks else ks ++ k ∷ [])
    by true e = o
    by false e = record { once = once_more k ks e o.once; below = below_more n k ks h o.below }

pub begins_with_new : (ks new : List ℕ) → Begins ks (with_new ks new)
begins_with_new ks [] = begins_itself ks
begins_with_new ks (k ∷ new) = begins_on ks (with_one ks k) (with_new (with_one ks k) new) (begins_with_one ks k) (begins_with_new (with_one ks k) new)

pub once_with_new : (n : ℕ) (ks new : List ℕ) → AllByRecursion (λ k. k < n) new → OnceBelow n ks → OnceBelow n (with_new ks new)
once_with_new n ks [] h o = o
once_with_new n ks (k ∷ new) h o = once_with_new n (with_one ks k) new h.1 (once_with_one n ks k h.0 o)

pub none_once : (n : ℕ) → OnceBelow n []
unfolding IsDistinct
none_once n = record { once = tt; below = tt }

pub with_new-append : (ks xs ys : List ℕ) → with_new ks (xs ++ ys) ≡ with_new (with_new ks xs) ys
with_new-append ks [] ys = refl
with_new-append ks (x ∷ xs) ys = with_new-append (with_one ks x) xs ys
