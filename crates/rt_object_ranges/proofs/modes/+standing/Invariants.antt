use Rattle.std.proofs.Common.{ℕ, ◌+◌, ◌*◌, ◌<◌, get_or}
use Rattle.rt_modes.specs.Spelling.{StandsInside}
use Rattle.rt_modes.specs.declared.code.Place.TheVariants as place
use Rattle.rt_modes.specs.declared.mode.Mode.{Mode}
use Rattle.rt_object_ranges.proofs.modes.+standing.Given as goal

abbrev pub decreases-opens_inside : goal.decreases-opens_inside
decreases-opens_inside l = 8 * l.levels + 4

abbrev pub decreases-stands_inside : goal.decreases-stands_inside
decreases-stands_inside l = 8 * l.levels + 0

abbrev pub decreases-is_passed : goal.decreases-is_passed
decreases-is_passed l = 8 * l.levels + 1

abbrev pub decreases-are_passed : goal.decreases-are_passed
decreases-are_passed l = 8 * l.levels + 2

abbrev pub decreases-opens_proc : goal.decreases-opens_proc
decreases-opens_proc l = 8 * l.levels + 3

abbrev pub decreases-may_be_answer : goal.decreases-may_be_answer
decreases-may_be_answer l = 8 * l.levels + 2

abbrev pub invariant-are_passed-loop-mode : goal.invariant-are_passed-loop-mode
invariant-are_passed-loop-mode l = (k : ℕ) (d : Mode) → k < l.mode-index → StandsInside l.records l.levels place.Passed 8 (get_or l.modes k d)
