-- What an input tells of itself, and what calls of it gave.
use Rattle.std.specs.Prelude.{◌≡◌, ◌<◌, ℕ, ◌++◌, Bool, true, List, [], Option, Some, drop, slice_index}

-- what an input tells: the bytes that are left, where it tells them, and whether its end is reached
pub record Feed : Type 0 where
  pub left : Option (List ℕ)
  pub ended : Bool

abbrev pub feed : Option (List ℕ) → Bool → Feed
feed left ended = record { left = left; ended = ended }

-- Calls gave these bytes, one after another, and the end or not. Where the input tells its bytes, these were the first of them, and
-- all where the end was given. An input that has ended gives no byte, and stays so.
pub record Gives (from : Feed) (bytes : List ℕ) (over : Bool) (to : Feed) : Type 0 where
  pub told : (xs : List ℕ) → from.left ≡ Some xs → (rest : List ℕ) × (xs ≡ bytes ++ rest) × (to.left ≡ Some rest) × (over ≡ true → rest ≡ [])
  pub small : (k : ℕ) → slice_index bytes k < 256
  pub none : from.ended ≡ true → (bytes ≡ []) × (to.ended ≡ true)
  pub shut : over ≡ true → to.ended ≡ true

-- behind the first so many bytes of an input stand these, and behind them the rest; nothing where the end was given
pub record Ahead (all : List ℕ) (taken : ℕ) (bytes : List ℕ) (over : Bool) (rest : List ℕ) : Type 0 where
  pub next : drop taken all ≡ bytes ++ rest
  pub last : over ≡ true → rest ≡ []
