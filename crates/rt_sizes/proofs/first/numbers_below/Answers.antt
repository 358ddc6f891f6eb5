use Rattle.std.proofs.Common.{[], ◌∷◌, ◌++◌, sym, ap, ◌∙◌}
use Rattle.rt_sizes.proofs.Cycles.{numbers_more}
use Rattle.rt_sizes.proofs.first.numbers_below.Goals as goal

pub loop-number-preserved : goal.loop-number-preserved
loop-number-preserved c = c.in_ok-push.ensures.ok ∙ ap (λ ns. ns ++ c.loop-number.number ∷ []) c.loop-number.invariant ∙ sym (numbers_more c.loop-number.number)
