use Rattle.std.proofs.Common.{◌≡◌, ℕ, ◌+◌, ◌<◌, length, false}
use Rattle.rt_sizes.specs.Capped.{AreRight, IsSettled, missing, one_if, table}
use Rattle.rt_sizes.proofs.settle.settle.Given as goal

-- the sizes are right, and settled once nothing has changed
abbrev pub invariant-loop-is_changed : goal.invariant-loop-is_changed
invariant-loop-is_changed l = (AreRight (table l.records l.known) l.sizes) × (l.is_changed ≡ false → (k : ℕ) → k < length l.sizes → IsSettled (table l.records l.known) l.sizes k)

abbrev pub decreases-loop-is_changed : goal.decreases-loop-is_changed
decreases-loop-is_changed l = missing l.sizes + one_if l.is_changed
