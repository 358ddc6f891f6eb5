-- Elements of lists by their places.
use Rattle.std.proofs.Common.{◌≡◌, ℕ, zero, suc, ◌+◌, ◌<◌, ◌⊎◌, inl, inr, List, [], ◌∷◌, ◌++◌, length, replicate, Some, None, slice_get, slice_set, refl, sym, ap, ◌∙◌, subst, arith}
use Rattle.std.proofs.lemmas.Option.{slice_get_within}
use Rattle.rt_digraph.specs.Walks.{Has, AreDifferent}

module _ {A : Type 0} where
  pub no_element : (i : ℕ) (a : A) → slice_get [] i ≡ Some a → ⊥
  no_element i a e = cc

  pub get_left : (xs ys : List A) (i : ℕ) (a : A) → slice_get xs i ≡ Some a → slice_get (xs ++ ys) i ≡ Some a
  get_left [] ys i a e = absurd (no_element i a e)
  get_left (x ∷ xs) ys zero a e = e
  get_left (x ∷ xs) ys (suc i) a e = get_left xs ys i a e

  pub get_end : (xs : List A) (x : A) → slice_get (xs ++ x ∷ []) (length xs) ≡ Some x
  get_end [] x = refl
  get_end (y ∷ xs) x = get_end xs x

  pub some_is : (a b : A) → Some a ≡ Some b → a ≡ b
  some_is a b e = cc

  -- an element of a list with one more is one of the list, or the last
  pub get_cases : (xs : List A) (x : A) (i : ℕ) (a : A) → slice_get (xs ++ x ∷ []) i ≡ Some a → (slice_get xs i ≡ Some a) ⊎ ((i ≡ length xs) × (a ≡ x))
  get_cases [] x zero a e = inr (refl, sym (some_is x a e))
  get_cases [] x (suc i) a e = absurd (no_element i a e)
  get_cases (y ∷ xs) x zero a e = inl e
  get_cases (y ∷ xs) x (suc i) a e = elim (get_cases xs x i a e) [ inl g ↦ inl g | inr g ↦ inr (ap suc g.0, g.1) ]

  pub get_there : (xs : List A) (i : ℕ) → i < length xs → (a : A) × (slice_get xs i ≡ Some a)
  get_there [] i h = absurd (omega arith)
  get_there (x ∷ xs) zero h = (x, refl)
  get_there (x ∷ xs) (suc i) h = get_there xs i (omega arith)

  pub not_there : (xs : List A) (i : ℕ) → slice_get xs i ≡ None → i < length xs → ⊥
  not_there xs i e h = let g = get_there xs i h in let a : slice_get xs i ≡ Some g.0 = g.1 in cc

  pub long_one : (xs : List A) (x : A) → length (xs ++ x ∷ []) ≡ length xs + 1
  long_one [] x = refl
  long_one (y ∷ xs) x = let h = long_one xs x in omega arith

  pub has_end : (xs : List A) (x : A) → Has (xs ++ x ∷ []) x
  has_end xs x = (length xs, get_end xs x)

  pub has_left : (xs : List A) (x a : A) → Has xs a → Has (xs ++ x ∷ []) a
  has_left xs x a h = (h.0, get_left xs (x ∷ []) h.0 a h.1)

  pub has_cases : (xs : List A) (x a : A) → Has (xs ++ x ∷ []) a → Has xs a ⊎ (a ≡ x)
  has_cases xs x a h = elim (get_cases xs x h.0 a h.1) [ inl g ↦ inl (h.0, g) | inr g ↦ inr g.1 ]

  pub different_none : AreDifferent {A = A} []
  different_none i j a e f = absurd (no_element i a e)

  pub different_more : (xs : List A) (x : A) → AreDifferent xs → (Has xs x → ⊥) → AreDifferent (xs ++ x ∷ [])
  different_more xs x d new i j a e f = elim (get_cases xs x i a e) [
    | inl g ↦ elim (get_cases xs x j a f) [
      | inl h ↦ d i j a g h
      | inr h ↦ absurd (new (i, subst (λ (z : A). slice_get xs i ≡ Some z) h.1 g))
    ]
    | inr g ↦ elim (get_cases xs x j a f) [
      | inl h ↦ absurd (new (j, subst (λ (z : A). slice_get xs j ≡ Some z) g.1 h))
      | inr h ↦ g.0 ∙ sym h.0
    ]
  ]

  pub different_less : (xs : List A) (x : A) → AreDifferent (xs ++ x ∷ []) → AreDifferent xs
  different_less xs x d i j a e f = d i j a (get_left xs (x ∷ []) i a e) (get_left xs (x ∷ []) j a f)

  -- the last is none of those before it
  pub last_is_new : (xs : List A) (x : A) → AreDifferent (xs ++ x ∷ []) → Has xs x → ⊥
  last_is_new xs x d h =
      let same = d h.0 (length xs) x (get_left xs (x ∷ []) h.0 x h.1) (get_end xs x) in
      let below = slice_get_within xs h.0 x h.1 in omega arith

  -- ---- an element put in the place of another

  pub set_same : (xs : List A) (n : ℕ) (x y : A) → slice_get xs n ≡ Some y → slice_get (slice_set xs n x) n ≡ Some x
  set_same [] n x y e = absurd (no_element n y e)
  set_same (z ∷ xs) zero x y e = refl
  set_same (z ∷ xs) (suc n) x y e = set_same xs n x y e

  pub set_other : (xs : List A) (n k : ℕ) (x : A) → (k ≡ n → ⊥) → slice_get (slice_set xs n x) k ≡ slice_get xs k
  set_other [] n k x h = refl
  set_other (z ∷ xs) zero zero x h = absurd (h refl)
  set_other (z ∷ xs) zero (suc k) x h = refl
  set_other (z ∷ xs) (suc n) zero x h = refl
  set_other (z ∷ xs) (suc n) (suc k) x h = set_other xs n k x (λ e. h (ap suc e))

  pub set_long : (xs : List A) (n : ℕ) (x : A) → length (slice_set xs n x) ≡ length xs
  set_long [] n x = refl
  set_long (z ∷ xs) zero x = refl
  set_long (z ∷ xs) (suc n) x = ap suc (set_long xs n x)

  pub set_cases : (xs : List A) (n k : ℕ) (x a : A) → slice_get (slice_set xs n x) k ≡ Some a → ((k ≡ n) × (a ≡ x)) ⊎ ((k ≡ n → ⊥) × (slice_get xs k ≡ Some a))
  set_cases [] n k x a e = absurd (no_element k a e)
  set_cases (z ∷ xs) zero zero x a e = inl (refl, sym (some_is x a e))
  set_cases (z ∷ xs) zero (suc k) x a e = inr ((λ h. omega arith), e)
  set_cases (z ∷ xs) (suc n) zero x a e = inr ((λ h. omega arith), e)
  set_cases (z ∷ xs) (suc n) (suc k) x a e = elim (set_cases xs n k x a e) [ inl g ↦ inl (ap suc g.0, g.1) | inr g ↦ inr ((λ h. g.0 (omega arith)), g.1) ]

  pub get_replicate : (n i : ℕ) (x a : A) → slice_get (replicate n x) i ≡ Some a → a ≡ x
  get_replicate zero i x a e = absurd (no_element i a e)
  get_replicate (suc n) zero x a e = sym (some_is x a e)
  get_replicate (suc n) (suc i) x a e = get_replicate n i x a e

  pub long_replicate : (n : ℕ) (x : A) → length (replicate n x) ≡ n
  long_replicate zero x = refl
  long_replicate (suc n) x = ap suc (long_replicate n x)
