use Rattle.std.proofs.Common.{None}
use Rattle.rt_exprs.specs.Names.{find_in}
use Rattle.rt_check_declared.specs.Verdicts.{with_faults}
use Rattle.rt_check_declared.specs.Bricks.{brick_faults}
use Rattle.rt_check_declared.proofs.HeadingSteps.{bricks_step, brick_faults_step}
use Rattle.rt_check_declared.proofs.bricks.read_bricks.Goals as goal

pub loop-declaration-preserved : goal.loop-declaration-preserved
loop-declaration-preserved c = (
  bricks_step (find_in c.args.levels.now) c.loop-declaration.found.bricks c.read_declaration.new.found.bricks c.args.declarations.now c.loop-declaration.declaration-index c.declaration-item.result c.loop-declaration-test.true c.declaration-item.is
      c.in_ok-read_declaration.ensures.bricks c.loop-declaration.invariant.0,
  brick_faults_step (find_in c.args.levels.now) c.loop-declaration.found.fault c.read_declaration.new.found.fault (with_faults None (brick_faults (find_in c.args.levels.now) c.args.declarations.now)) c.args.declarations.now c.loop-declaration.declaration-index
      c.declaration-item.result c.loop-declaration-test.true c.declaration-item.is c.in_ok-read_declaration.ensures.fault c.loop-declaration.invariant.1,
)
