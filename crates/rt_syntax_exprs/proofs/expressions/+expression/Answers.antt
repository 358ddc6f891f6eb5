use Rattle.std.proofs.Common.{◌≡◌, ap, rules, arith}
use Rattle.rt_syntax_exprs.proofs.Rank.{rank}
use Rattle.std.proofs.lemmas.Grind.{common_steps}
use Rattle.rt_grammar.specs.Parsing.{◌>>=◌, pure}
use Rattle.rt_syntax_exprs.specs.ExpressionParser as reads
use Rattle.rt_grammar.proofs.Turning.{one_more}
use Rattle.rt_syntax_exprs.proofs.expressions.+expression.Goals as goal

pub dyadics-loop-turn-preserved : goal.dyadics-loop-turn-preserved
dyadics-loop-turn-preserved t c =
    let inner = reads.inside c.args.context c.args.levels in
    let e = one_more (λ n. reads.more_dyadics c.args.context c.args.levels inner c.args.level (reads.below c.args.context c.args.levels inner c.args.level) c.at_of-at.result n c.loop-turn.whole c.loop-turn.rest.now) _ c.loop-turn._turn c.loop-turn-test.true c.loop-turn.invariant in
    first_of (search rules, grind (arith, common_steps))

pub arguments-loop-turn-preserved : goal.arguments-loop-turn-preserved
unfolding reads.arguments reads.another
arguments-loop-turn-preserved t c =
    let e = one_more (λ n. reads.more_listed c.args.context c.args.levels (reads.inside c.args.context c.args.levels) n c.loop-turn.found c.loop-turn.rest.now) _ c.loop-turn._turn c.loop-turn-test.true c.loop-turn.invariant in
    first_of (search rules, grind (arith, common_steps))

pub chain-loop-turn-preserved : goal.chain-loop-turn-preserved
chain-loop-turn-preserved t c =
    let e = one_more (λ n. (reads.more_links c.args.context c.args.levels (reads.inside c.args.context c.args.levels) n c.loop-turn.links >>= λ ls. pure (reads.chain_as c.in_ok-first.first ls)) c.loop-turn.rest.now) _ c.loop-turn._turn c.loop-turn-test.true c.loop-turn.invariant in
    first_of (search rules, grind (arith, common_steps))

pub below-dyadics-requires : goal.below-dyadics-requires
below-dyadics-requires t c = let e : rank c.args.level ≡ 1 = ap rank c.in-Product.is in first_of (search rules, grind (arith, common_steps))

pub below-dyadics-requires-in-Land : goal.below-dyadics-requires-in-Land
below-dyadics-requires-in-Land t c = let e : rank c.args.level ≡ 2 = ap rank c.in-Land.is in first_of (search rules, grind (arith, common_steps))

pub below-dyadics-requires-in-Sum : goal.below-dyadics-requires-in-Sum
below-dyadics-requires-in-Sum t c = let e : rank c.args.level ≡ 3 = ap rank c.in-Sum.is in first_of (search rules, grind (arith, common_steps))
