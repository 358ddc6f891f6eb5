use Rattle.std.proofs.Common.{refl, sym, subst, ◌∙◌, arith}
use Rattle.std.proofs.lemmas.List.{take_all}
use Rattle.rt_image.specs.Ranges.{HaveDifferentNames}
use Rattle.rt_image.proofs.Names.{different_more, not_different}
use Rattle.rt_image.proofs.ranges.have_different_names.Goals as goal

pub returns-then-not-is_new : goal.returns-then-not-is_new
returns-then-not-is_new c = (
  λ e. absurd cc,
  λ h. absurd (not_different c.args.tasks.now c.loop-number.number c.index-tasks-number.result (omega arith) (sym c.is_new.ensures ∙ c.if-not-is_new.true) h),
)

pub loop-number-preserved : goal.loop-number-preserved
loop-number-preserved c = different_more c.args.tasks.now c.loop-number.number c.index-tasks-number.result (omega arith) c.loop-number.invariant (sym c.is_new.ensures ∙ c.if-not-is_new.false)

pub returns : goal.returns
returns c = (λ e. subst HaveDifferentNames (take_all c.loop-number.number c.args.tasks.now (omega arith)) c.loop-number.invariant, λ h. refl)
