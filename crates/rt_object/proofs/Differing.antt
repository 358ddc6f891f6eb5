-- Names that differ, and numbers that rise.
use Rattle.std.proofs.Common.{◌≡◌, ℕ, zero, suc, ◌<◌, Bool, true, false, not, ◌||◌, ◌⊎◌, inl, inr, List, [], ◌∷◌, ◌++◌, length, map, Some, refl, sym, ap, subst, ◌∙◌, arith, append_assoc}
use Rattle.std.specs.List.{slice_get, list_any, AllByRecursion}
use Rattle.std.specs.Str.{bytes_eq}
use Rattle.std.proofs.lemmas.Option.{slice_get_within}
use Rattle.std.proofs.lemmas.Slice.Eq.{bytes_eq-Decides}
use Rattle.rt_words.proofs.Spelled.{AllStand}
use Rattle.rt_object.specs.Grammar.{is_new}
use Rattle.rt_object.specs.Ranges.{AreDifferent, Rise}

pub either_way : (b : Bool) → (b ≡ true) ⊎ (b ≡ false)
either_way true = inl refl
either_way false = inr refl

some_is : {A : Type 0} (x y : A) → Some x ≡ Some y → x ≡ y
some_is x y e = cc

-- ---- places of a list with one more behind it

module _ {A : Type 0} where
  pub at_push : (xs : List A) (x y : A) (i : ℕ) → slice_get (xs ++ x ∷ []) i ≡ Some y → (slice_get xs i ≡ Some y) ⊎ ((i ≡ length xs) × (x ≡ y))
  at_push [] x y zero e = inr (refl, some_is x y e)
  at_push [] x y (suc i) e = absurd cc
  at_push (u ∷ xs) x y zero e = inl e
  at_push (u ∷ xs) x y (suc i) e = elim (at_push xs x y i e) [ inl k ↦ inl k | inr k ↦ inr (ap suc k.0, k.1) ]

  front_at : (xs more : List A) (i : ℕ) (y : A) → slice_get xs i ≡ Some y → slice_get (xs ++ more) i ≡ Some y
  front_at [] more i y e = absurd cc
  front_at (u ∷ xs) more zero y e = e
  front_at (u ∷ xs) more (suc i) y e = front_at xs more i y e

  pub behind_at : (xs more : List A) (x : A) → slice_get (xs ++ x ∷ more) (length xs) ≡ Some x
  behind_at [] more x = refl
  behind_at (u ∷ xs) more x = behind_at xs more x

pub map_behind : {A B : Type 0} (f : A → B) (xs : List A) (x : A) (more : List A) → map f (xs ++ x ∷ more) ≡ map f xs ++ f x ∷ map f more
map_behind f [] x more = refl
map_behind f (u ∷ xs) x more = ap (λ t. f u ∷ t) (map_behind f xs x more)

map_both : {A B : Type 0} (f : A → B) (xs more : List A) → map f (xs ++ more) ≡ map f xs ++ map f more
map_both f [] more = refl
map_both f (u ∷ xs) more = ap (λ t. f u ∷ t) (map_both f xs more)

-- ---- names

-- no two of some names differ as numbers do
differ : (a b : List ℕ) → bytes_eq a b ≡ false → a ≡ b → ⊥
differ a b e f = let g = (bytes_eq-Decides a b).1 f in let h : true ≡ false = sym g ∙ e in cc

pub either_any : (a b : Bool) → not (a || b) ≡ true → (a ≡ false) × (not b ≡ true)
either_any true b e = absurd cc
either_any false b e = (refl, e)

new_is : (names : List (List ℕ)) (n : List ℕ) → is_new names n ≡ true → (i : ℕ) (m : List ℕ) → slice_get names i ≡ Some m → m ≡ n → ⊥
new_is [] n e i m g f = absurd cc
new_is (u ∷ names) n e zero m g f = let b = either_any (bytes_eq u n) (list_any (λ m. bytes_eq m n) names) e in differ u n b.0 (some_is u m g ∙ f)
new_is (u ∷ names) n e (suc i) m g f = let b = either_any (bytes_eq u n) (list_any (λ m. bytes_eq m n) names) e in new_is names n b.1 i m g f

new_where : (names : List (List ℕ)) (n : List ℕ) → ((i : ℕ) (m : List ℕ) → slice_get names i ≡ Some m → m ≡ n → ⊥) → is_new names n ≡ true
new_where [] n h = refl
new_where (u ∷ names) n h =
    let rest = new_where names n (λ i m g f. h (suc i) m g f) in
    elim (either_way (bytes_eq u n)) [
      | inl k ↦ absurd (h zero u refl ((bytes_eq-Decides u n).0 k))
      | inr k ↦ rw k rest
    ]

pub different_push : (names : List (List ℕ)) (n : List ℕ) → AreDifferent names → is_new names n ≡ true → AreDifferent (names ++ n ∷ [])
different_push names n h new = λ i j m o below e f same. by i j m o below (at_push names n m i e) (at_push names n o j f) same
  where
    by : (i j : ℕ) (m o : List ℕ) → i < j → ((slice_get names i ≡ Some m) ⊎ ((i ≡ length names) × (n ≡ m))) → ((slice_get names j ≡ Some o) ⊎ ((j ≡ length names) × (n ≡ o))) → m ≡ o → ⊥
    by i j m o below (inl e) (inl f) same = h i j m o below e f same
    by i j m o below (inl e) (inr f) same = new_is names n new i m e (same ∙ sym f.1)
    by i j m o below (inr e) (inl f) same = let within = slice_get_within names j o f in let at = e.0 in absurd (omega arith)
    by i j m o below (inr e) (inr f) same = let at = e.0 in let at' = f.0 in absurd (omega arith)

pub new_behind : (names more : List (List ℕ)) (n : List ℕ) → AreDifferent (names ++ n ∷ more) → is_new names n ≡ true
new_behind names more n h = new_where names n (λ i m e f. h i (length names) m n (slice_get_within names i m e) (front_at names (n ∷ more) i m e) (behind_at names more n) f)

pub no_names : AreDifferent []
no_names = λ i j m n below e f same. absurd cc

-- elements of which each has a name that those before it lack
module _ {A : Type 0} (name : A → List ℕ) (S : A → Type 0) where
  abbrev pub Fresh : List A → A → Type 0
  Fresh before x = (is_new (map name before) (name x) ≡ true) × S x

  pub fresh_all : (before more : List A) → AreDifferent (map name before) → AllStand Fresh before more → AreDifferent (map name (before ++ more)) × AllByRecursion S more
  fresh_all before [] d h = (subst AreDifferent (sym (map_both name before [])) (subst AreDifferent (sym (nothing_behind (map name before))) d), tt)
    where
      nothing_behind : (xs : List (List ℕ)) → xs ++ [] ≡ xs
      nothing_behind [] = refl
      nothing_behind (x ∷ xs) = ap (λ t. x ∷ t) (nothing_behind xs)
  fresh_all before (x ∷ more) d h =
      let one : AreDifferent (map name (before ++ x ∷ [])) = subst AreDifferent (sym (map_behind name before x [])) (different_push (map name before) (name x) d h.0.0) in
      let next = fresh_all (before ++ x ∷ []) more one h.1 in
      (subst (λ t. AreDifferent (map name t)) (append_assoc before (x ∷ []) more) next.0, (h.0.1, next.1))

  pub all_fresh : (before more : List A) → AreDifferent (map name (before ++ more)) → AllByRecursion S more → AllStand Fresh before more
  all_fresh before [] d h = tt
  all_fresh before (x ∷ more) d h = (
    (new_behind (map name before) (map name more) (name x) (subst AreDifferent (map_behind name before x more) d), h.0),
    all_fresh (before ++ x ∷ []) more (subst (λ t. AreDifferent (map name t)) (sym (append_assoc before (x ∷ []) more)) d) h.1,
  )

-- ---- numbers that rise

pub rise_push : (ns : List ℕ) (n : ℕ) → Rise ns → ((i m : ℕ) → slice_get ns i ≡ Some m → m < n) → Rise (ns ++ n ∷ [])
rise_push ns n h less = λ i j m o below e f. by i j m o below (at_push ns n m i e) (at_push ns n o j f)
  where
    by : (i j m o : ℕ) → i < j → ((slice_get ns i ≡ Some m) ⊎ ((i ≡ length ns) × (n ≡ m))) → ((slice_get ns j ≡ Some o) ⊎ ((j ≡ length ns) × (n ≡ o))) → m < o
    by i j m o below (inl e) (inl f) = h i j m o below e f
    by i j m o below (inl e) (inr f) = let l = less i m e in let same = f.1 in omega arith
    by i j m o below (inr e) (inl f) = let within = slice_get_within ns j o f in let at = e.0 in absurd (omega arith)
    by i j m o below (inr e) (inr f) = let at = e.0 in let at' = f.0 in absurd (omega arith)

pub rise_behind : (ns more : List ℕ) (n : ℕ) → Rise (ns ++ n ∷ more) → (i m : ℕ) → slice_get ns i ≡ Some m → m < n
rise_behind ns more n h i m e = h i (length ns) m n (slice_get_within ns i m e) (front_at ns (n ∷ more) i m e) (behind_at ns more n)

pub no_numbers : Rise []
no_numbers = λ i j m n below e f. absurd cc

-- elements of which each has a number greater than those before it
module _ {A : Type 0} (number : A → ℕ) (S : A → Type 0) where
  abbrev pub Later : List A → A → Type 0
  Later before x = ((i m : ℕ) → slice_get (map number before) i ≡ Some m → m < number x) × S x

  pub later_all : (before more : List A) → Rise (map number before) → AllStand Later before more → Rise (map number (before ++ more)) × AllByRecursion S more
  later_all before [] d h = (subst Rise (sym (map_both number before [])) (subst Rise (sym (nothing_behind (map number before))) d), tt)
    where
      nothing_behind : (xs : List ℕ) → xs ++ [] ≡ xs
      nothing_behind [] = refl
      nothing_behind (x ∷ xs) = ap (λ t. x ∷ t) (nothing_behind xs)
  later_all before (x ∷ more) d h =
      let one : Rise (map number (before ++ x ∷ [])) = subst Rise (sym (map_behind number before x [])) (rise_push (map number before) (number x) d h.0.0) in
      let next = later_all (before ++ x ∷ []) more one h.1 in
      (subst (λ t. Rise (map number t)) (append_assoc before (x ∷ []) more) next.0, (h.0.1, next.1))

  pub all_later : (before more : List A) → Rise (map number (before ++ more)) → AllByRecursion S more → AllStand Later before more
  all_later before [] d h = tt
  all_later before (x ∷ more) d h = (
    (rise_behind (map number before) (map number more) (number x) (subst Rise (map_behind number before x more) d), h.0),
    all_later (before ++ x ∷ []) more (subst (λ t. Rise (map number t)) (sym (append_assoc before (x ∷ []) more)) d) h.1,
  )
