use Rattle.std.proofs.Common.{◌≡◌, ◌+◌, ◌-◌, ◌*◌}
use Rattle.rt_bricks.specs.StartParser as reads
use Rattle.rt_bricks.proofs.starts.+start.Given as goal

abbrev pub decreases-inside : goal.decreases-inside
decreases-inside l = 4 * l.levels + 0

abbrev pub decreases-listed : goal.decreases-listed
decreases-listed l = 4 * l.levels + 1

abbrev pub decreases-list : goal.decreases-list
decreases-list l = 4 * l.levels + 2

abbrev pub decreases-start_of : goal.decreases-start_of
decreases-start_of l = 4 * l.levels + 3

abbrev pub invariant-listed-loop-turn : goal.invariant-listed-loop-turn
invariant-listed-loop-turn l = reads.listed l.context l.levels (reads.inside l.context l.levels) l.fn.items
    ≡ reads.more_starts l.context l.levels (reads.inside l.context l.levels) (l._turn-end - l._turn) l.all l.rest
