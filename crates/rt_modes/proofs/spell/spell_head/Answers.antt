use Rattle.std.proofs.Common.{[], ◌∷◌, refl, arith}
use Rattle.rt_modes.specs.Parts.{parts_after}
use Rattle.rt_modes.specs.Spelling.{spelling}
use Rattle.rt_modes.proofs.PartsLeft.{one_more, adds, label, number, ref, ref_array, array, procedure}
use Rattle.rt_modes.proofs.spell.spell_head.Goals as goal

pub returns-in_ok-push-in-Label-clause-ok : goal.returns-in_ok-push-in-Label-clause-ok
returns-in_ok-push-in-Label-clause-ok c = adds _ (8 ∷ []) [] c.args.parts.now c.args.parts.now _ _ (label _ c.in-Label.is) (omega arith) refl c.in_ok-push-in-Label.ensures.ok

pub returns-in_ok-push_with_word-in-Record-clause-ok : goal.returns-in_ok-push_with_word-in-Record-clause-ok
returns-in_ok-push_with_word-in-Record-clause-ok c = adds _ _ [] c.args.parts.now c.args.parts.now _ _ (number _ _ c.in-Record.is) (omega arith) refl c.in_ok-push_with_word-in-Record.ensures.ok

pub returns-in_ok-push-in-Ref-2-clause-ok : goal.returns-in_ok-push-in-Ref-2-clause-ok
returns-in_ok-push-in-Ref-2-clause-ok c =
    adds _ (4 ∷ []) (spelling c.get.result.now) c.args.parts.now c.push-in-Ref.new.self _ _ (ref _ _ _ c.in-Ref.is c.get.ensures) (omega arith) (one_more _ _ _ c.in_ok-push-in-Ref.ensures.ok) c.in_ok-push-in-Ref-2.ensures.ok

pub returns-in_ok-push-in-RefArray-2-clause-ok : goal.returns-in_ok-push-in-RefArray-2-clause-ok
returns-in_ok-push-in-RefArray-2-clause-ok c =
    adds _ (5 ∷ []) (spelling c.get-in-RefArray.result.now) c.args.parts.now c.push-in-RefArray.new.self _ _ (ref_array _ _ _ c.in-RefArray.is c.get-in-RefArray.ensures) (omega arith)
    (one_more _ _ _ c.in_ok-push-in-RefArray.ensures.ok) c.in_ok-push-in-RefArray-2.ensures.ok

pub returns-in_ok-push_with_word-in-Array-clause-ok : goal.returns-in_ok-push_with_word-in-Array-clause-ok
returns-in_ok-push_with_word-in-Array-clause-ok c =
    adds _ _ (spelling c.get-in-Array.result.now) c.args.parts.now c.push-in-Array.new.self _ _ (array _ _ _ _ c.in-Array.is c.get-in-Array.ensures) (omega arith)
    (one_more _ _ _ c.in_ok-push-in-Array.ensures.ok) c.in_ok-push_with_word-in-Array.ensures.ok

pub returns-in_ok-push_all-in-Proc-clause-ok : goal.returns-in_ok-push_all-in-Proc-clause-ok
returns-in_ok-push_all-in-Proc-clause-ok c =
    adds _ _ (parts_after c.as_slice.result.now c.in-Proc.answer) c.args.parts.now c.push-in-Proc.new.self _ _ (procedure _ _ _ _ _ c.in-Proc.is c.as_slice.ensures c.len.ensures) (omega arith)
    (one_more _ _ _ c.in_ok-push-in-Proc.ensures.ok) c.in_ok-push_all-in-Proc.ensures.ok
