use Rattle.std.proofs.Common.{take}
use Rattle.rt_object_ranges.proofs.Rising.{RiseTo}
use Rattle.rt_object_ranges.proofs.taken.numbers_rise.Given as goal

abbrev pub invariant-loop-number : goal.invariant-loop-number
invariant-loop-number l = RiseTo (take l.number-index l.numbers) l.least
