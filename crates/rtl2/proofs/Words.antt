-- The words behind the first.
use Rattle.std.proofs.Common.{◌≡◌, ℕ, List, [], ◌∷◌, ◌++◌, length, drop, Option, Some, None, sym, ap, ◌∙◌, arith}
use Rattle.std.specs.Prelude.{MatchOption}
use Rattle.std.specs.Option.{option_to_list}

-- after a step what is left is all but the first
pub dropped : {X : Type 0} (r : Option X) (old new : List X) → old ≡ option_to_list r ++ new → MatchOption r (length old ≡ 0) (λ _. Unit {0}) → new ≡ drop 1 old
dropped (Some x) old new e h = sym (ap (drop 1) e)
dropped None [] new e h = sym e
dropped None (x ∷ xs) new e h = absurd (omega (arith, h))

-- none is left where the step says so
pub step_none : {X : Type 0} (P : X → Type 0) (r : Option X) (m n : ℕ) (old : List X) → m ≡ length old → MatchOption r ((m ≡ 0) × (n ≡ 0)) P → MatchOption r (length old ≡ 0) (λ _. Unit {0})
step_none P (Some x) m n old e h = tt
step_none P None m n old e h = sym e ∙ h.0
