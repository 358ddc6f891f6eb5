-- The ticks of a run.
use Rattle.std.specs.Prelude.{ℕ, ◌+◌, ◌-◌, ◌≤◌, nat_le, nat_lt, if◌then◌else◌, List, length, Option, Some, None}

pub record Ticking : Type 0 where
  pub gaps : List ℕ  -- of the ticks that are left
  pub since : ℕ  -- instructions since the last tick, or since the start
  pub placements : List ℕ  -- of the ticks taken

-- the next of these ticks is there or they are all taken, and so many placements can still be noted
pub record HasRoom (ticks : List ℕ) (next room : ℕ) : Type 0 where
  pub there : next ≤ length ticks
  pub few : length ticks ≤ 200000
  pub spare : length ticks ≤ next + room

-- so many instructions, or those up to the next tick where they are fewer; one where that tick is due
abbrev pub room_before : ℕ → Option ℕ → ℕ → ℕ
room_before most None since = most
room_before most (Some gap) since = if nat_le gap since then 1 else if nat_lt (gap - since) most then gap - since else most
