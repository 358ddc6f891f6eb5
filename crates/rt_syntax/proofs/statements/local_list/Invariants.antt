use Rattle.std.proofs.Common.{◌≡◌, ◌-◌}
use Rattle.rt_syntax.specs.StatementParser as reads
use Rattle.rt_syntax.proofs.statements.local_list.Given as goal

abbrev pub invariant-loop-turn : goal.invariant-loop-turn
invariant-loop-turn l = reads.local_list l.context l.fn.items ≡ reads.more_locals l.context (l._turn-end - l._turn) l.all l.rest
