use Rattle.std.proofs.Common.{◌≡◌, ◌-◌}
use Rattle.rt_bricks.specs.StartParser as reads
use Rattle.rt_bricks.proofs.starts.selectors.Given as goal

abbrev pub invariant-loop-turn : goal.invariant-loop-turn
invariant-loop-turn l = reads.selectors l.context l.levels l.fn.items ≡ reads.more_selectors l.context l.levels (l._turn-end - l._turn) l.all l.rest
