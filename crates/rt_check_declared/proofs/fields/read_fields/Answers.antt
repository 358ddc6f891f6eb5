use Rattle.std.proofs.Common.{None}
use Rattle.rt_exprs.specs.Names.{find_in}
use Rattle.rt_check_declared.specs.Fields.{mode_faults}
use Rattle.rt_check_declared.specs.Verdicts.{with_faults}
use Rattle.rt_check_declared.proofs.RecordSteps.{fields_step, faults_step}
use Rattle.rt_check_declared.proofs.fields.read_fields.Goals as goal

pub loop-line-preserved : goal.loop-line-preserved
loop-line-preserved c = (
  fields_step (find_in c.args.levels.now) c.args.site c.loop-line.found.fields c.read_line.new.found.fields c.args.lines.now c.loop-line.line-index c.line-item.result c.loop-line-test.true c.line-item.is c.in_ok-read_line.ensures.fields c.loop-line.invariant.0,
  faults_step (find_in c.args.levels.now) c.args.site c.loop-line.found.fault c.read_line.new.found.fault (with_faults None (mode_faults (find_in c.args.levels.now) c.args.site c.args.lines.now)) c.args.lines.now c.loop-line.line-index c.line-item.result
      c.loop-line-test.true c.line-item.is c.in_ok-read_line.ensures.fault c.loop-line.invariant.1,
)
