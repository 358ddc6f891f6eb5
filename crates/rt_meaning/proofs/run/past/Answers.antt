use Rattle.std.proofs.Common.{arith}
use Rattle.rt_meaning.proofs.Rising.{passed_none, passed_more, ends_here, ends_last}
use Rattle.rt_meaning.proofs.run.past.Goals as goal

pub loop-at-init : goal.loop-at-init
loop-at-init c = record { passed = passed_none c.args.placements.now c.args.next c.args.steps; from = omega arith }

pub loop-at-preserved : goal.loop-at-preserved
loop-at-preserved c = record { passed = passed_more c.args.placements.now c.args.next c.args.steps c.loop-at.at c.loop-at-test.true c.if-placements-at.false c.loop-at.invariant.passed; from = omega (arith, c.loop-at.invariant.from) }

pub returns-then-placements-at-clause-value : goal.returns-then-placements-at-clause-value
returns-then-placements-at-clause-value c = (ends_here c.args.placements.now c.args.next c.args.steps c.loop-at.at c.loop-at-test.true c.if-placements-at.true c.loop-at.invariant.passed).value

pub returns-clause-value : goal.returns-clause-value
returns-clause-value c = (ends_last c.args.placements.now c.args.next c.args.steps c.loop-at.at (omega (arith, c.loop-at-test.false, c.loop-at.auto.at-end)) c.loop-at.invariant.passed).value

pub returns-then-placements-at-clause-rest : goal.returns-then-placements-at-clause-rest
returns-then-placements-at-clause-rest c = (ends_here c.args.placements.now c.args.next c.args.steps c.loop-at.at c.loop-at-test.true c.if-placements-at.true c.loop-at.invariant.passed).rest

pub returns-clause-rest : goal.returns-clause-rest
returns-clause-rest c = (ends_last c.args.placements.now c.args.next c.args.steps c.loop-at.at (omega (arith, c.loop-at-test.false, c.loop-at.auto.at-end)) c.loop-at.invariant.passed).rest

pub returns-then-placements-at-clause-others : goal.returns-then-placements-at-clause-others
returns-then-placements-at-clause-others c = (ends_here c.args.placements.now c.args.next c.args.steps c.loop-at.at c.loop-at-test.true c.if-placements-at.true c.loop-at.invariant.passed).others

pub returns-clause-others : goal.returns-clause-others
returns-clause-others c = (ends_last c.args.placements.now c.args.next c.args.steps c.loop-at.at (omega (arith, c.loop-at-test.false, c.loop-at.auto.at-end)) c.loop-at.invariant.passed).others
