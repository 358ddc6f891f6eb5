use Rattle.std.proofs.Common.{◌+◌, take, drop, arith}
use Rattle.rt_outside.specs.Deeds.{deed_of, deeds_of, nothing}
use Rattle.rt_outside.proofs.Stretches.{one_more, one_failed}
use Rattle.rt_outside.proofs.Taken.{one_taken, one_left}
use Rattle.rt_outside.proofs.performing.perform.Goals as goal

pub loop-deed-init : goal.loop-deed-init
loop-deed-init g c = (λ name. omega arith, nothing)

pub returns-in-Err-clause-performed : goal.returns-in-Err-clause-performed
returns-in-Err-clause-performed g c =
    one_failed (deeds_of (take c.loop-deed.deed-index c.args.deeds.now)) (deed_of c.deed-item.result) (deeds_of (drop (c.loop-deed.deed-index + 1) c.args.deeds.now)) (deeds_of c.args.deeds.now)
    (one_left c.args.deeds.now c.loop-deed.deed-index c.deed-item.result c.loop-deed-test.true c.deed-item.is) c.loop-deed.invariant.1 c.in-Err.ensures.failed

pub loop-deed-preserved : goal.loop-deed-preserved
loop-deed-preserved g c = (
  λ name. omega (arith, c.loop-deed.invariant.0 name, c.in-Ok.ensures.reads_later name),
  one_more (deeds_of (take c.loop-deed.deed-index c.args.deeds.now)) (deed_of c.deed-item.result) (deeds_of (take (c.loop-deed.deed-index + 1) c.args.deeds.now))
      (one_taken c.args.deeds.now c.loop-deed.deed-index c.deed-item.result c.loop-deed-test.true c.deed-item.is) c.loop-deed.invariant.1 c.in-Ok.ensures.done,
)
