use Rattle.std.proofs.Common.{ℕ, ◌<◌, get_or, List}
use Rattle.rt_object_ranges.specs.Parts.{IsString}
use Rattle.rt_object_ranges.proofs.strings.is_each_string.Given as goal

abbrev pub invariant-loop-string : goal.invariant-loop-string
invariant-loop-string l = (k : ℕ) (d : List ℕ) → k < l.string-index → IsString (get_or l.strings k d)
