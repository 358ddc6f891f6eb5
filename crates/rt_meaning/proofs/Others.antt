-- A step of one task leaves the others.
use Rattle.std.proofs.Common.{◌≡◌, ◌≢◌, ℕ, zero, suc, ◌-◌, ◌<◌, List, [], ◌∷◌, slice_get, slice_set, refl, ap, arith}
use Rattle.rt_meaning.specs.Run.{task_in}
use Rattle.rt_meaning.specs.Laws.{StepsLeaveOthers}

get_other : {A : Type 0} (xs : List A) (i j : ℕ) (x : A) → i ≢ j → slice_get (slice_set xs i x) j ≡ slice_get xs j
get_other [] i j x h = refl
get_other (y ∷ xs) zero zero x h = absurd (h refl)
get_other (y ∷ xs) zero (suc j) x h = refl
get_other (y ∷ xs) (suc i) zero x h = refl
get_other (y ∷ xs) (suc i) (suc j) x h = get_other xs i j x (λ e. h (ap suc e))

apart : (i j : ℕ) → 0 < i → 0 < j → i ≢ j → i - 1 ≢ j - 1
apart i j a b h = λ e. h (grind arith)

pub others_left : StepsLeaveOthers
others_left w s i j input a b h = ap task_in (get_other s.tasks (i - 1) (j - 1) _ (apart i j a b h))
