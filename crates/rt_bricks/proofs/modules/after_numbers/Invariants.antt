use Rattle.std.proofs.Common.{◌≡◌, ◌-◌}
use Rattle.rt_bricks.specs.ModuleParser as reads
use Rattle.rt_bricks.proofs.modules.after_numbers.Given as goal

abbrev pub invariant-loop-turn : goal.invariant-loop-turn
invariant-loop-turn l = reads.numbers l.fn.items ≡ reads.more_numbers (l._turn-end - l._turn) l.rest
