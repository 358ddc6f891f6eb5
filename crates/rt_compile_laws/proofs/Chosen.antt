-- One thing for each of a list.
use Rattle.std.proofs.Common.{◌≡◌, ℕ, zero, suc, List, [], ◌∷◌, length, Some, refl, ap, subst}
use Rattle.std.specs.Prelude.{slice_get}
use Rattle.rt_bricks_laws.proofs.AllLists.{some_is, no_some}

-- each is of the thing at its place
pub record Chosen {A B : Type 0} (xs : List A) (P : ℕ → A → B → Type 0) : Type 0 where
  pub all : List B
  pub each : length all ≡ length xs
  pub right : (k : ℕ) (x : A) (y : B) → slice_get xs k ≡ Some x → slice_get all k ≡ Some y → P k x y

pub choose : {A B : Type 0} (xs : List A) (P : ℕ → A → B → Type 0) → ((k : ℕ) (x : A) → slice_get xs k ≡ Some x → (y : B) × P k x y) → Chosen xs P
choose [] P h = record { all = []; each = refl; right = λ k x y e. no_some x e }
choose {A} {B} (x ∷ xs) P h =
    let here = h 0 x refl in
    let rest = choose xs (λ k. P (suc k)) (λ k y e. h (suc k) y e) in
    record { all = here.0 ∷ rest.all; each = ap suc rest.each; right = by_place here rest } where
      by_place : (here : (y : B) × P 0 x y) (rest : Chosen xs (λ k. P (suc k))) (k : ℕ) (z : A) (y : B) → slice_get (x ∷ xs) k ≡ Some z → slice_get (here.0 ∷ rest.all) k ≡ Some y → P k z y
      by_place here rest zero z y e g = subst (λ (w : A). P 0 w y) (some_is x z e) (subst (P 0 x) (some_is here.0 y g) here.1)
      by_place here rest (suc k) z y e g = rest.right k z y e g

-- what stands at a place of another list as long
pub there : {A B : Type 0} (xs : List A) (ys : List B) (k : ℕ) (y : B) → length ys ≡ length xs → slice_get ys k ≡ Some y → (x : A) × (slice_get xs k ≡ Some x)
there [] [] k y e g = no_some y g
there [] (z ∷ ys) k y e g = absurd (omega_zero e) where
  omega_zero : suc (length ys) ≡ 0 → ⊥
  omega_zero q = absurd cc
there (x ∷ xs) [] k y e g = no_some y g
there (x ∷ xs) (z ∷ ys) zero y e g = (x, refl)
there (x ∷ xs) (z ∷ ys) (suc k) y e g = there xs ys k y (same e) g where
  same : suc (length ys) ≡ suc (length xs) → length ys ≡ length xs
  same q = cc
