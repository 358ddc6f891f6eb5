-- What the supervisor keeps, as plain data, and the ranges that it always has.
use Rattle.std.specs.Prelude.{◌≡◌, ◌⊎◌, ℕ, ◌-◌, ◌<◌, ◌≤◌, Bool, true, false, List, length, slice_index, slice_index_or}
use Rattle.rt_rules.specs.declared.task.State.{State}
use Rattle.rt_rules.specs.declared.task.State.TheVariants.{Ready, Ended, Failed}
use Rattle.rt_rules.specs.declared.task.TaskRow.{TaskRow}

pub record Roster : Type 0 where
  pub tasks : List TaskRow  -- of tasks 1, 2 and so on
  pub flags : List Bool  -- of events 1 to 32
  pub owners : List ℕ  -- of facilities 1 to 32; 0 is free
  pub clock : ℕ  -- the ticks taken so far
  pub stamp : ℕ  -- the next stamp

-- what is read of a task that isn't there
abbrev pub no_row : TaskRow
no_row = record { state = Ended; priority = 0; stamp = 0 }

-- the row of task i
abbrev pub row : Roster → ℕ → TaskRow
row r i = slice_index_or r.tasks (i - 1) no_row

-- whether the flag of event n is set
abbrev pub flag_of : Roster → ℕ → Bool
flag_of r n = slice_index_or r.flags (n - 1) false

-- the owner of facility n, or 0
abbrev pub owner_of : Roster → ℕ → ℕ
owner_of r n = slice_index r.owners (n - 1)

-- i is the number of a task
abbrev pub IsTask : Roster → ℕ → Type 0
IsTask r i = (1 ≤ i) × (i ≤ length r.tasks)

-- n is the number of an event or facility
abbrev pub IsNumber : ℕ → Type 0
IsNumber n = (1 ≤ n) × (n ≤ 32)

abbrev pub has_ended : State → Bool
has_ended Ended = true
has_ended (Failed n) = true
has_ended _ = false

-- i is the number of a task that hasn't ended
abbrev pub IsAlive : Roster → ℕ → Type 0
IsAlive r i = IsTask r i × (has_ended (row r i).state ≡ false)

-- i is the number of a task that is ready
abbrev pub IsReady : Roster → ℕ → Type 0
IsReady r i = IsTask r i × ((row r i).state ≡ Ready)

-- what holds of the rules at every moment
pub record InRanges (r : Roster) : Type 0 where
  pub some : 1 ≤ length r.tasks
  pub few : length r.tasks ≤ 32
  pub priorities : (i : ℕ) → IsTask r i → 0 < (row r i).priority
  pub earlier : (i : ℕ) → IsTask r i → (row r i).stamp < r.stamp
  pub different : (i j : ℕ) → IsTask r i → IsTask r j → (row r i).stamp ≡ (row r j).stamp → i ≡ j
  pub flags : length r.flags ≡ 32
  pub owners : length r.owners ≡ 32
  pub owned : (n : ℕ) → IsNumber n → (owner_of r n ≡ 0) ⊎ IsAlive r (owner_of r n)
