-- The accesses to a memory, one after the other.
use Rattle.std.specs.Prelude.{ℕ, List, ◌∷◌, Option, Some, None}

-- one access, with its address, whether it is refused or not
pub data Access : Type 0 where
  FetchesWord : (at : ℕ) → Access
  ReadsWord : (at : ℕ) → Access
  ReadsByte : (at : ℕ) → Access
  WritesWord : (at : ℕ) → Access
  WritesByte : (at : ℕ) → Access

-- the accesses so far, the newest first, where the memory tells them
abbrev pub Log : Type 0
Log = Option (List Access)

-- one more access
abbrev pub noted : Access → Log → Log
noted access None = None
noted access (Some made) = Some (access ∷ made)
