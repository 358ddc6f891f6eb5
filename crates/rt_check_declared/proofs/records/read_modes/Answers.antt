use Rattle.rt_exprs.specs.Names.{find_in}
use Rattle.rt_check_declared.specs.Heads.{head}
use Rattle.rt_check_declared.specs.Records.{definition}
use Rattle.rt_check_declared.proofs.RecordSteps.{modes_step}
use Rattle.rt_check_declared.proofs.records.read_modes.Goals as goal

pub loop-declaration-preserved : goal.loop-declaration-preserved
loop-declaration-preserved c = (
  modes_step (definition (find_in c.args.levels.now)) c.loop-declaration.read.records c.read_declaration.new.read.records c.args.declarations.now c.loop-declaration.declaration-index c.declaration-item.result c.loop-declaration-test.true c.declaration-item.is
      c.in_ok-read_declaration.ensures.records c.loop-declaration.invariant.0,
  modes_step (head (find_in c.args.levels.now)) c.loop-declaration.read.heads c.read_declaration.new.read.heads c.args.declarations.now c.loop-declaration.declaration-index c.declaration-item.result c.loop-declaration-test.true c.declaration-item.is
      c.in_ok-read_declaration.ensures.heads c.loop-declaration.invariant.1,
)
