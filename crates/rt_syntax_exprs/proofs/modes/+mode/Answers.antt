use Rattle.std.proofs.Common.{rules, arith}
use Rattle.std.proofs.lemmas.Grind.{common_steps}
use Rattle.rt_syntax_exprs.specs.ModeParser as reads
use Rattle.rt_grammar.proofs.Turning.{one_more}
use Rattle.rt_syntax_exprs.proofs.ModeLines.{inside_again}
use Rattle.rt_syntax_exprs.proofs.modes.+mode.Goals as goal

pub parameters-loop-turn-preserved : goal.parameters-loop-turn-preserved
unfolding reads.next_parameter
parameters-loop-turn-preserved t c =
    let e = one_more (λ n. reads.more_parameters c.args.context c.args.modes c.args.parentheses (reads.inside c.args.context c.args.modes) n c.loop-turn.found c.loop-turn.rest.now) _ c.loop-turn._turn c.loop-turn-test.true c.loop-turn.invariant in
    first_of (search rules, grind (arith, common_steps))

pub inside-returns : goal.inside-returns
inside-returns t c = rw (inside_again c.args.context c.args.modes c.args.parentheses c.args.references c.args.items.now c.if-modes-eq0.false) c.mode_of.ensures
