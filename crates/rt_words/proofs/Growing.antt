-- A text that has grown by the beginning of another.
use Rattle.std.proofs.Common.{◌≡◌, ℕ, List, ◌++◌, Result, Ok, Err, OnErr, refl}
use Rattle.rt_words.specs.Spelling.{Grew}

-- what is left of the other is known
pub grown : {T E : Type 0} (r : Result T E) (text rest old new : List ℕ) → new ++ rest ≡ old ++ text → OnErr r (Grew text old new)
grown (Ok _) text rest old new e = tt
grown (Err _) text rest old new e = record { rest = rest; is = e }

-- a text that stands still has grown by the beginning of any other
pub stands_still : {T E : Type 0} (r : Result T E) (text old : List ℕ) → OnErr r (Grew text old old)
stands_still r text old = grown r text text old old refl
