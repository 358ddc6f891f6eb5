use Rattle.std.proofs.Common.{None}
use Rattle.rt_exprs.specs.Names.{find_in}
use Rattle.rt_check_declared.specs.Parts.{parts_faults}
use Rattle.rt_check_declared.specs.Verdicts.{with_faults}
use Rattle.rt_check_declared.proofs.HeadingSteps.{parts_step, faults_step}
use Rattle.rt_check_declared.proofs.parts.read_parts.Goals as goal

pub loop-line-preserved : goal.loop-line-preserved
loop-line-preserved c = (
  parts_step (find_in c.args.levels.now) c.args.recovers c.loop-line.parts c.add_parts.new.parts c.args.lines.now c.loop-line.line-index c.line-item.result c.in_ok-mode.mode c.as_slice-names.result.now c.loop-line-test.true c.line-item.is c.in_ok-mode.ensures
      c.as_slice-names.ensures c.in_ok-add_parts.ensures c.loop-line.invariant.0,
  faults_step (find_in c.args.levels.now) c.args.recovers c.loop-line.fault c.note_line.new.faults (with_faults None (parts_faults (find_in c.args.levels.now) c.args.recovers c.args.lines.now)) c.args.lines.now c.loop-line.line-index c.line-item.result c.in_ok-mode.mode
      c.as_slice-names.result.now c.loop-line-test.true c.line-item.is c.in_ok-mode.ensures c.as_slice-names.ensures c.note_line.ensures c.loop-line.invariant.1,
)
