use Rattle.std.proofs.Common.{◌≡◌, ◌-◌}
use Rattle.rt_bricks.specs.DeclarationParser as reads
use Rattle.rt_bricks.proofs.declarations.data_items.Given as goal

abbrev pub invariant-loop-turn : goal.invariant-loop-turn
invariant-loop-turn l = reads.data_items l.context l.fn.items ≡ reads.more_data_items l.context (l._turn-end - l._turn) l.all l.rest
