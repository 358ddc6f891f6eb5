use Rattle.std.proofs.Common.{◌≡◌, ◌-◌}
use Rattle.rt_bricks.specs.DeclarationParser as reads
use Rattle.rt_bricks.proofs.fields.more_fields.Given as goal

abbrev pub invariant-loop-turn : goal.invariant-loop-turn
invariant-loop-turn l = reads.more_fields l.context l.modes l.parentheses l.fn.most l.fn.first l.fn.items ≡ reads.more_fields l.context l.modes l.parentheses (l.fn.most - l._turn) l.so_far l.rest
