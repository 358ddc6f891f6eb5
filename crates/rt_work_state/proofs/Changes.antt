-- A list in which one element is changed: it is taken out, and what becomes of it is put in its place.
use Rattle.std.proofs.Common.{◌≡◌, ℕ, zero, suc, ◌-◌, List, Some, slice_get, slice_set, refl, arith}
use Rattle.std.proofs.lemmas.List.{set-set}
use Rattle.rt_tree.specs.Stored.{changed}
use Rattle.rt_work_state.specs.Stores.{changed_number}

pub changed_found : {A : Type 0} (xs : List A) (k : ℕ) (x hole : A) (f : A → A) → Some x ≡ slice_get xs k → slice_set (slice_set xs k hole) k (f x) ≡ changed xs k f
changed_found xs k x hole f e = rw (← e) (set-set xs k hole (f x))

pub changed_number_found : {A : Type 0} (xs : List A) (n k : ℕ) (x hole : A) (f : A → A) → (n ≡ 0 → ⊥) → k ≡ n - 1 → Some x ≡ slice_get xs k → slice_set (slice_set xs k hole) k (f x) ≡ changed_number xs n f
changed_number_found xs zero k x hole f ne e g = absurd (ne refl)
changed_number_found xs (suc n) k x hole f ne e g = let h : k ≡ n = omega arith in rw h (changed_found xs n x hole f (rw h at g))
