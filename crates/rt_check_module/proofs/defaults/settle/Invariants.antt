use Rattle.std.proofs.Common.{◌≡◌, ℕ, ◌+◌, ◌<◌, length, false}
use Rattle.rt_check_module.specs.Doubts.{AreKept, IsSettled, one_if, still}
use Rattle.rt_check_module.proofs.defaults.settle.Given as goal

abbrev pub invariant-loop-is_changed : goal.invariant-loop-is_changed
invariant-loop-is_changed l = AreKept l.records l.known × (l.is_changed ≡ false → (k : ℕ) → k < length l.known → IsSettled l.records l.known k)

abbrev pub decreases-loop-is_changed : goal.decreases-loop-is_changed
decreases-loop-is_changed l = still l.known + one_if l.is_changed
