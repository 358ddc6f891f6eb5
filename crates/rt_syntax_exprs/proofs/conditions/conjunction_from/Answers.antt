use Rattle.std.proofs.Common.{rules, arith}
use Rattle.std.proofs.lemmas.Grind.{common_steps}
use Rattle.rt_grammar.specs.Parsing.{◌>>=◌}
use Rattle.rt_syntax_exprs.specs.ExpressionParser as reads
use Rattle.rt_grammar.proofs.Turning.{one_more}
use Rattle.rt_syntax_exprs.proofs.conditions.conjunction_from.Goals as goal

pub loop-turn-preserved : goal.loop-turn-preserved
loop-turn-preserved c =
    let e = one_more (λ n. (reads.more_comparisons c.args.context n c.loop-turn.all >>= reads.conjoined c.args.at) c.loop-turn.rest.now) _ c.loop-turn._turn c.loop-turn-test.true c.loop-turn.invariant in
    first_of (search rules, grind (arith, common_steps))
