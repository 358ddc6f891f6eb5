use Rattle.std.proofs.Common.{rules, arith}
use Rattle.std.proofs.lemmas.Grind.{common_steps}
use Rattle.rt_bricks.specs.StartParser as reads
use Rattle.rt_grammar.proofs.Turning.{one_more}
use Rattle.rt_bricks.proofs.starts.+start.Goals as goal

pub listed-loop-turn-preserved : goal.listed-loop-turn-preserved
unfolding reads.next_start
listed-loop-turn-preserved t c =
    let e = one_more (λ n. reads.more_starts c.args.context c.args.levels (reads.inside c.args.context c.args.levels) n c.loop-turn.all c.loop-turn.rest.now) _ c.loop-turn._turn c.loop-turn-test.true c.loop-turn.invariant in
    first_of (search rules, grind (arith, common_steps))
