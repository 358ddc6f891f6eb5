use Rattle.std.proofs.Common.{arith}
use Rattle.rt_words.proofs.Turning.{each_turn}
use Rattle.rt_modes.specs.declared.code.Place.TheVariants.{Passed}
use Rattle.rt_modes.specs.Reading as reads
use Rattle.rt_modes.proofs.Levels.{inside_again}
use Rattle.rt_modes.proofs.read.+mode.Goals as goal

pub parameters-loop-turn-preserved : goal.parameters-loop-turn-preserved
parameters-loop-turn-preserved t c = each_turn (λ _. reads.inside c.args.records c.args.levels Passed 8) c.args.count c.loop-turn._turn c.loop-turn.found _ c.loop-turn.rest.now c.in_ok-parameter.after.now
    c.in_ok-parameter.parameter (omega arith) c.loop-turn.invariant c.in_ok-parameter.ensures c.in_ok-push.ensures.ok

pub inside-returns : goal.inside-returns
inside-returns t c = rw (inside_again c.args.records c.args.levels c.args.place c.args.refs c.args.bytes.now c.if-levels-eq0.false) c.mode_of.ensures
