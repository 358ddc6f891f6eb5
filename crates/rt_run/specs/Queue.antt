-- The queue of a priority, as a relation: just its ready tasks, the least stamp first.
use Rattle.std.specs.Prelude.{◌≡◌, ℕ, ◌<◌, List, length, slice_index}
use Rattle.rt_rules.specs.Roster.{Roster, row, IsReady}

-- i stands in a queue
pub record StandsIn (q : List ℕ) (i : ℕ) : Type 0 where
  pub at : ℕ
  pub below : at < length q
  pub is : slice_index q at ≡ i

-- just the tasks of which P holds stand in the queue, and one behind the other by their stamps; so each stands there once
pub record Lists (P : ℕ → Type 0) (r : Roster) (q : List ℕ) : Type 0 where
  pub each : (k : ℕ) → k < length q → P (slice_index q k)
  pub whole : (i : ℕ) → P i → StandsIn q i
  pub rising : (j k : ℕ) → j < k → k < length q → (row r (slice_index q j)).stamp < (row r (slice_index q k)).stamp

-- task i is ready and has priority p
abbrev pub IsReadyAt : Roster → ℕ → ℕ → Type 0
IsReadyAt r p i = IsReady r i × ((row r i).priority ≡ p)

-- q is the queue of priority p
abbrev pub IsQueue : Roster → ℕ → List ℕ → Type 0
IsQueue r p q = Lists (IsReadyAt r p) r q
