use Rattle.std.proofs.Common.{◌≡◌, ◌+◌, ◌-◌, ◌*◌, []}
use Rattle.rt_modes.specs.declared.code.Place.TheVariants.{Passed}
use Rattle.rt_words.specs.Reading as formats
use Rattle.rt_modes.specs.Reading as reads
use Rattle.rt_modes.proofs.read.+mode.Given as goal

abbrev pub decreases-inside : goal.decreases-inside
decreases-inside l = 8 * l.levels + 0

abbrev pub decreases-parameters : goal.decreases-parameters
decreases-parameters l = 8 * l.levels + 1

abbrev pub decreases-result_of : goal.decreases-result_of
decreases-result_of l = 8 * l.levels + 1

abbrev pub decreases-array : goal.decreases-array
decreases-array l = 8 * l.levels + 1

abbrev pub decreases-procedure : goal.decreases-procedure
decreases-procedure l = 8 * l.levels + 2

abbrev pub decreases-behind : goal.decreases-behind
decreases-behind l = 8 * l.levels + 3

abbrev pub decreases-mode_of : goal.decreases-mode_of
decreases-mode_of l = 8 * l.levels + 4

-- All parameters are those found and as many more as there are turns left.
abbrev pub invariant-parameters-loop-turn : goal.invariant-parameters-loop-turn
invariant-parameters-loop-turn l = formats.times (reads.inside l.records l.levels Passed 8) l.count [] l.bytes
    ≡ formats.times (reads.inside l.records l.levels Passed 8) (l.count - l._turn) l.found l.rest
