use Rattle.std.proofs.Common.{◌≡◌, ℕ, ◌+◌, ◌<◌, ◌≤◌}
use Rattle.rt_sizes.specs.Capped.{AreRight, IsSettled, missing, table}
use Rattle.rt_sizes.proofs.settle.find_all.Given as goal

abbrev pub invariant-loop-number : goal.invariant-loop-number
invariant-loop-number l = AreRight (table l.records l.known) l.sizes × (missing l.sizes + l.found ≡ missing l.initial.sizes)
    × (l.found ≤ l.number) × (l.found ≡ 0 → (k : ℕ) → k < l.number → IsSettled (table l.records l.known) l.sizes k)
