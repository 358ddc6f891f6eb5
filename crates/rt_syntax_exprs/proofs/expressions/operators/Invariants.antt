use Rattle.std.proofs.Common.{◌≡◌, ◌-◌}
use Rattle.rt_syntax_exprs.specs.ExpressionParser as reads
use Rattle.rt_syntax_exprs.proofs.expressions.operators.Given as goal

abbrev pub invariant-loop-turn : goal.invariant-loop-turn
invariant-loop-turn l = reads.operators l.context l.fn.items ≡ reads.more_operators l.context (l._turn-end - l._turn) l.found l.rest
