use Rattle.std.proofs.Common.{refl, ◌∙◌}
use Rattle.rt_exprs.specs.Names.{find_in}
use Rattle.rt_check_declared.specs.declared.site.Site.TheVariants as site
use Rattle.rt_check_declared.specs.Verdicts.{fit, after}
use Rattle.rt_check_declared.specs.Written as spec
use Rattle.rt_check_declared.proofs.ModeSteps.{one_more}
use Rattle.rt_check_declared.proofs.written.+judge.Goals as goal

pub judge_all-loop-parameter-init : goal.judge_all-loop-parameter-init
judge_all-loop-parameter-init t c = (fit _, rw c.in_ok-new.ensures refl, refl)

pub judge_all-loop-parameter-preserved : goal.judge_all-loop-parameter-preserved
judge_all-loop-parameter-preserved t c =
    let kept = c.loop-parameter.invariant in
    let v = after kept.0 (spec.judged (find_in c.args.levels.now) c.parameter-item.result site.Argument) in (
      v,
      c.after-modes.ensures _ _ kept.1 c.judge-next.ensures,
      one_more (find_in c.args.levels.now) c.args.written.now c.loop-parameter.parameter-index c.parameter-item.result kept.0 c.loop-parameter-test.true c.parameter-item.is ∙ kept.2,
    )
