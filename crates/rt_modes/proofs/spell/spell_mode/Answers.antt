use Rattle.rt_words.proofs.Growing.{stands_still}
use Rattle.rt_modes.proofs.PartsLeft.{goes_on, goes_down}
use Rattle.rt_modes.proofs.spell.spell_mode.Goals as goal

pub returns-in_err-parts-clause-err : goal.returns-in_err-parts-clause-err
returns-in_err-parts-clause-err c = stands_still c.from_residual.result _ _

pub returns-in_err-push-clause-err : goal.returns-in_err-push-clause-err
returns-in_err-push-clause-err c = stands_still c.from_residual-in_err-push.result _ _

pub loop-part-smaller : goal.loop-part-smaller
loop-part-smaller c = goes_down _ _ _ _ _ _ c.in-Some.ensures c.in_ok-spell_part.ensures.ok

pub loop-part-preserved : goal.loop-part-preserved
loop-part-preserved c = goes_on _ _ _ _ _ _ _ c.in-Some.ensures c.in_ok-spell_part.ensures.ok c.loop-part.invariant
