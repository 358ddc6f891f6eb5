use Rattle.std.proofs.Common.{◌≡◌, ℕ, ◌+◌, ◌<◌, ◌≤◌}
use Rattle.rt_check_module.specs.Doubts.{AreKept, IsSettled, still}
use Rattle.rt_check_module.proofs.defaults.judge_all.Given as goal

abbrev pub invariant-loop-number : goal.invariant-loop-number
invariant-loop-number l = AreKept l.records l.known × (still l.known + l.found ≡ still l.initial.known)
    × (l.found ≤ l.number) × (l.found ≡ 0 → (k : ℕ) → k < l.number → IsSettled l.records l.known k)
