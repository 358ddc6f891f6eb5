use Rattle.std.proofs.Common.{◌≡◌, ◌+◌, ◌-◌, ◌*◌}
use Rattle.rt_syntax_exprs.specs.ModeParser as reads
use Rattle.rt_syntax_exprs.proofs.modes.+mode.Given as goal

abbrev pub decreases-inside : goal.decreases-inside
decreases-inside l = 8 * l.modes + 0

abbrev pub decreases-parameter : goal.decreases-parameter
decreases-parameter l = 8 * l.modes + 1

abbrev pub decreases-parameters : goal.decreases-parameters
decreases-parameters l = 8 * l.modes + 2

abbrev pub decreases-result_of : goal.decreases-result_of
decreases-result_of l = 8 * l.modes + 2

abbrev pub decreases-array : goal.decreases-array
decreases-array l = 8 * l.modes + 2

abbrev pub decreases-array_reference : goal.decreases-array_reference
decreases-array_reference l = 8 * l.modes + 2

abbrev pub decreases-reference : goal.decreases-reference
decreases-reference l = 8 * l.modes + 3

abbrev pub decreases-procedure : goal.decreases-procedure
decreases-procedure l = 8 * l.modes + 3

abbrev pub decreases-mode_of : goal.decreases-mode_of
decreases-mode_of l = 8 * l.modes + 4

abbrev pub invariant-parameters-loop-turn : goal.invariant-parameters-loop-turn
invariant-parameters-loop-turn l = reads.any_parameters l.context l.modes l.parentheses (reads.inside l.context l.modes) l.fn.items
    ≡ reads.more_parameters l.context l.modes l.parentheses (reads.inside l.context l.modes) (l._turn-end - l._turn) l.found l.rest
