use Rattle.std.proofs.Common.{ℕ, ◌<◌, get_or}
use Rattle.rt_object.specs.Ranges.{IsProcNumber}
use Rattle.rt_object_ranges.proofs.taken.is_each_proc.Given as goal

abbrev pub invariant-loop-number : goal.invariant-loop-number
invariant-loop-number l = (k : ℕ) (d : ℕ) → k < l.number-index → IsProcNumber l.bricks (get_or l.numbers k d)
