-- Marks of the 256 priorities, as bits of four words of 64.
use Rattle.std.specs.Prelude.{◌≡◌, ℕ, ◌/◌, ◌%◌, ◌<◌, List, slice_index}
use Rattle.std.specs.Int.{bit_at}

-- 1 where priority p is marked, else 0
abbrev pub mark_of : List ℕ → ℕ → ℕ
mark_of words p = bit_at (slice_index words (p / 64)) (p % 64)

abbrev pub HasNoMark : List ℕ → Type 0
HasNoMark words = (p : ℕ) → p < 256 → mark_of words p ≡ 0

-- p is the least priority that is marked
pub record IsLeastMark (words : List ℕ) (p : ℕ) : Type 0 where
  pub marked : mark_of words p ≡ 1
  pub least : (q : ℕ) → q < p → mark_of words q ≡ 0
