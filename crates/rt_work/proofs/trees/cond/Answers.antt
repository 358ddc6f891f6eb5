use Rattle.std.proofs.Common.{refl}
use Rattle.rt_work.proofs.Calls.{after_none}
use Rattle.rt_work.proofs.trees.cond.Goals as goal

pub returns-in_ok-compare_item-in-Is-clause-does : goal.returns-in_ok-compare_item-in-Is-clause-does
returns-in_ok-compare_item-in-Is-clause-does c =
    after_none _ _ c.then_both.ensures.none c.then_both.ensures.todo (λ todo. λ e. rw (todo, c.in_ok-compare_item-in-Is.ensures, c.then_both.ensures.values, c.then_both.ensures.locals, c.in-Is.is) refl)
