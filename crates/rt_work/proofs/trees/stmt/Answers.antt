use Rattle.std.proofs.Common.{refl}
use Rattle.rt_work.proofs.Calls.{after_none}
use Rattle.rt_work.proofs.trees.stmt.Goals as goal

pub returns-in_ok-save_item-in-Put-clause-does : goal.returns-in_ok-save_item-in-Put-clause-does
returns-in_ok-save_item-in-Put-clause-does c =
    after_none _ _ c.then_place.ensures.none c.then_place.ensures.todo (λ todo. λ e. rw (todo, c.in_ok-save_item-in-Put.ensures, c.then_place.ensures.values, c.then_place.ensures.locals, c.in-Put.is) refl)

pub returns-in_ok-choose_item-in-If-clause-does : goal.returns-in_ok-choose_item-in-If-clause-does
returns-in_ok-choose_item-in-If-clause-does c =
    after_none _ _ c.then_test.ensures.none c.then_test.ensures.todo (λ todo. λ e. rw (todo, c.in_ok-choose_item-in-If.ensures, c.then_test.ensures.values, c.then_test.ensures.locals, c.in-If.is) refl)

pub returns-in-For-clause-does : goal.returns-in-For-clause-does
returns-in-For-clause-does c =
    after_none _ _ c.loop_from.ensures.none c.loop_from.ensures.todo (λ todo. λ e. rw (todo, c.loop_from.ensures.values, c.loop_from.ensures.locals, c.in-For.is) refl)

pub returns-in_ok-to_item-in-To-clause-does : goal.returns-in_ok-to_item-in-To-clause-does
returns-in_ok-to_item-in-To-clause-does c =
    after_none _ _ c.then_eval-in-To.ensures.none c.then_eval-in-To.ensures.todo (λ todo. λ e. rw (todo, c.in_ok-to_item-in-To.ensures, c.then_eval-in-To.ensures.values, c.then_eval-in-To.ensures.locals, c.in-To.is) refl)

pub returns-in_ok-decide_item-in-While-clause-does : goal.returns-in_ok-decide_item-in-While-clause-does
returns-in_ok-decide_item-in-While-clause-does c =
    after_none _ _ c.then_test-in-While.ensures.none c.then_test-in-While.ensures.todo (λ todo. λ e. rw (todo, c.in_ok-decide_item-in-While.ensures, c.then_test-in-While.ensures.values, c.then_test-in-While.ensures.locals, c.in-While.is) refl)
