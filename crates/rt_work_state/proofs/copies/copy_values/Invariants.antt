use Rattle.std.proofs.Common.{◌≡◌, take}
use mathlib.Core.List.{reverse}
use Rattle.rt_work_state.proofs.copies.copy_values.Given as goal

abbrev pub invariant-loop-value : goal.invariant-loop-value
invariant-loop-value l = l.copy ≡ reverse (take l.value-index l.from)
