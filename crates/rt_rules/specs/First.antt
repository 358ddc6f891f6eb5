-- The first of the tasks of a kind, as a relation: the one with the least pair of priority and stamp.
use Rattle.std.specs.Prelude.{◌≡◌, ◌≢◌, ◌⊎◌, ℕ, ◌<◌, Bool, true, false}
use Rattle.rt_rules.specs.declared.task.State.{State}
use Rattle.rt_rules.specs.declared.task.TaskRow.{TaskRow}
use Rattle.rt_rules.specs.Roster.{Roster, row, IsTask}

-- a lesser priority is more urgent; of equal ones the earlier stamp is
abbrev pub Before : TaskRow → TaskRow → Type 0
Before t u = (t.priority < u.priority) ⊎ ((t.priority ≡ u.priority) × (t.stamp < u.stamp))

-- task i is of the kind, and comes before each other task of the kind
pub record IsFirst (kind : State → Bool) (r : Roster) (i : ℕ) : Type 0 where
  pub there : IsTask r i
  pub suits : kind (row r i).state ≡ true
  pub least : (j : ℕ) → IsTask r j → kind (row r j).state ≡ true → j ≢ i → Before (row r i) (row r j)

-- no task is of the kind
abbrev pub HasNone : (State → Bool) → Roster → Type 0
HasNone kind r = (i : ℕ) → IsTask r i → kind (row r i).state ≡ false
