use Rattle.std.proofs.Common.{◌≡◌, ◌+◌, ◌-◌, ◌*◌}
use Rattle.rt_syntax.specs.StatementParser as reads
use Rattle.rt_syntax.proofs.statements.+statement.Given as goal

abbrev pub decreases-inside : goal.decreases-inside
decreases-inside l = 8 * l.levels + 0

abbrev pub decreases-branch_from : goal.decreases-branch_from
decreases-branch_from l = 8 * l.levels + 1

abbrev pub decreases-any_otherwise : goal.decreases-any_otherwise
decreases-any_otherwise l = 8 * l.levels + 1

abbrev pub decreases-for_loop : goal.decreases-for_loop
decreases-for_loop l = 8 * l.levels + 1

abbrev pub decreases-while_loop : goal.decreases-while_loop
decreases-while_loop l = 8 * l.levels + 1

abbrev pub decreases-block : goal.decreases-block
decreases-block l = 8 * l.levels + 1

abbrev pub decreases-branches : goal.decreases-branches
decreases-branches l = 8 * l.levels + 2

abbrev pub decreases-conditional : goal.decreases-conditional
decreases-conditional l = 8 * l.levels + 3

abbrev pub decreases-simple : goal.decreases-simple
decreases-simple l = 8 * l.levels + 4

abbrev pub decreases-any_simple : goal.decreases-any_simple
decreases-any_simple l = 8 * l.levels + 5

abbrev pub decreases-statement : goal.decreases-statement
decreases-statement l = 8 * l.levels + 6

abbrev pub decreases-sequence_of : goal.decreases-sequence_of
decreases-sequence_of l = 8 * l.levels + 7

abbrev pub invariant-sequence_of-loop-turn : goal.invariant-sequence_of-loop-turn
invariant-sequence_of-loop-turn l = reads.sequence_of l.context l.levels (reads.inside l.context l.levels) l.fn.items
    ≡ reads.more_statements l.context l.levels (reads.inside l.context l.levels) (l._turn-end - l._turn) l.all l.rest

abbrev pub invariant-branches-loop-turn : goal.invariant-branches-loop-turn
invariant-branches-loop-turn l = reads.branches l.context l.levels (reads.inside l.context l.levels) l.fn.items
    ≡ reads.more_branches l.context l.levels (reads.inside l.context l.levels) (l._turn-end - l._turn) l.all l.rest
