use Rattle.std.proofs.Common.{rules, arith}
use Rattle.std.proofs.lemmas.Grind.{common_steps}
use Rattle.rt_syntax.specs.StatementParser as reads
use Rattle.rt_grammar.proofs.Turning.{one_more}
use Rattle.rt_syntax.proofs.statements.+statement.Goals as goal

pub sequence_of-loop-turn-preserved : goal.sequence_of-loop-turn-preserved
unfolding reads.next_statement
sequence_of-loop-turn-preserved t c =
    let e = one_more (λ n. reads.more_statements c.args.context c.args.levels (reads.inside c.args.context c.args.levels) n c.loop-turn.all c.loop-turn.rest.now) _ c.loop-turn._turn c.loop-turn-test.true c.loop-turn.invariant in
    first_of (search rules, grind (arith, common_steps))

pub branches-loop-turn-preserved : goal.branches-loop-turn-preserved
unfolding reads.next_branch
branches-loop-turn-preserved t c =
    let e = one_more (λ n. reads.more_branches c.args.context c.args.levels (reads.inside c.args.context c.args.levels) n c.loop-turn.all c.loop-turn.rest.now) _ c.loop-turn._turn c.loop-turn-test.true c.loop-turn.invariant in
    first_of (search rules, grind (arith, common_steps))
