use Rattle.std.proofs.Common.{◌≡◌, ◌-◌}
use Rattle.rt_grammar.specs.Parsing.{◌>>=◌}
use Rattle.rt_syntax_exprs.specs.ExpressionParser as reads
use Rattle.rt_syntax_exprs.proofs.conditions.condition_from.Given as goal

abbrev pub invariant-loop-turn : goal.invariant-loop-turn
invariant-loop-turn l = reads.condition_from l.context l.at l.fn.found l.fn.items ≡ (reads.more_conjunctions l.context (l._turn-end - l._turn) l.all >>= reads.disjoined l.at) l.rest
