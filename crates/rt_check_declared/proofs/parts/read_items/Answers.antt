use Rattle.std.proofs.Common.{None}
use Rattle.rt_exprs.specs.Names.{find_in}
use Rattle.rt_check_declared.specs.Verdicts.{with_faults}
use Rattle.rt_check_declared.specs.Parts.{item_faults}
use Rattle.rt_check_declared.proofs.HeadingSteps.{items_step, item_faults_step}
use Rattle.rt_check_declared.proofs.parts.read_items.Goals as goal

pub loop-line-preserved : goal.loop-line-preserved
loop-line-preserved c = (
  items_step (find_in c.args.levels.now) c.loop-line.parts c.add_items.new.parts c.args.lines.now c.loop-line.line-index c.line-item.result c.in_ok-mode.mode c.as_slice-items.result.now c.loop-line-test.true c.line-item.is c.in_ok-mode.ensures
      c.as_slice-items.ensures c.in_ok-add_items.ensures c.loop-line.invariant.0,
  item_faults_step (find_in c.args.levels.now) c.loop-line.fault c.note_items.new.faults (with_faults None (item_faults (find_in c.args.levels.now) c.args.lines.now)) c.args.lines.now c.loop-line.line-index c.line-item.result
      c.in_ok-mode.mode c.as_slice-items.result.now c.loop-line-test.true c.line-item.is c.in_ok-mode.ensures c.as_slice-items.ensures c.note_items.ensures c.loop-line.invariant.1,
)
