use Rattle.std.proofs.Common.{◌≡◌, ◌≢◌, ℕ, ◌≤◌, length}
use Rattle.rt_rules.specs.Roster.{row}
use Rattle.rt_run.proofs.moves.holder.Given as goal

-- none of the tasks so far has the stamp
abbrev pub invariant-loop-at : goal.invariant-loop-at
invariant-loop-at l =
    (l.at-end ≡ length l.rules.tasks) × ((i : ℕ) → 1 ≤ i → i ≤ l.at → (row l.rules i).stamp ≢ l.stamp)
