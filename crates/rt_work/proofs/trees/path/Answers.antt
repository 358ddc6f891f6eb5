use Rattle.std.proofs.Common.{refl}
use Rattle.rt_work.proofs.Calls.{after_none}
use Rattle.rt_work.proofs.trees.path.Goals as goal

pub returns-in_ok-into_item-in-FieldOf-clause-does : goal.returns-in_ok-into_item-in-FieldOf-clause-does
returns-in_ok-into_item-in-FieldOf-clause-does c =
    after_none _ _ c.then_at.ensures.none c.then_at.ensures.todo (λ todo. rw (todo, c.in_ok-into_item-in-FieldOf.ensures, c.then_at.ensures.values, c.then_at.ensures.locals, c.in-FieldOf.is) refl)

pub returns-in_ok-pick_item-in-Elem-clause-does : goal.returns-in_ok-pick_item-in-Elem-clause-does
returns-in_ok-pick_item-in-Elem-clause-does c =
    after_none _ _ c.then_place.ensures.none c.then_place.ensures.todo (λ todo. rw (todo, c.in_ok-pick_item-in-Elem.ensures, c.then_place.ensures.values, c.then_place.ensures.locals, c.in-Elem.is) refl)

pub returns-in-ElemRow-clause-does : goal.returns-in-ElemRow-clause-does
returns-in-ElemRow-clause-does c =
    after_none _ _ c.then_both.ensures.none c.then_both.ensures.todo (λ todo. rw (todo, c.then_both.ensures.values, c.then_both.ensures.locals, c.in-ElemRow.is) refl)
