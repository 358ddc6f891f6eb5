use Rattle.rt_check_module.proofs.Judged.{line_step}
use Rattle.rt_check_module.proofs.items.judge_lines.Goals as goal

pub loop-line-preserved : goal.loop-line-preserved
loop-line-preserved c =
    line_step c.args.scope.now c.args.lines.now c.loop-line.line-index c.line-item.result c.as_slice-items.result.now c.loop-line.left.now c.behind-left.result.now c.loop-line.faults c.judge_items.new.faults _ c.loop-line-test.true c.line-item.is
    c.as_slice-items.ensures c.behind-left.ensures c.judge_items.ensures c.loop-line.invariant
