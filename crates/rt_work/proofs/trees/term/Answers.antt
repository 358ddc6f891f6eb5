use Rattle.std.proofs.Common.{refl}
use Rattle.rt_work.proofs.Calls.{after_none}
use Rattle.rt_work.proofs.trees.term.Goals as goal

pub returns-in-Get-clause-does : goal.returns-in-Get-clause-does
returns-in-Get-clause-does c =
    after_none _ _ c.then_at.ensures.none c.then_at.ensures.todo (λ todo. rw (todo, c.then_at.ensures.values, c.then_at.ensures.locals, c.in-Get.is) refl)

pub returns-in-RefRow-clause-does : goal.returns-in-RefRow-clause-does
returns-in-RefRow-clause-does c =
    after_none _ _ c.then_at-in-RefRow.ensures.none c.then_at-in-RefRow.ensures.todo (λ todo. rw (todo, c.then_at-in-RefRow.ensures.values, c.then_at-in-RefRow.ensures.locals, c.in-RefRow.is) refl)

pub returns-in-Count-clause-does : goal.returns-in-Count-clause-does
returns-in-Count-clause-does c =
    after_none _ _ c.then_at-in-Count.ensures.none c.then_at-in-Count.ensures.todo (λ todo. rw (todo, c.then_at-in-Count.ensures.values, c.then_at-in-Count.ensures.locals, c.in-Count.is) refl)

pub returns-in-CountRow-clause-does : goal.returns-in-CountRow-clause-does
returns-in-CountRow-clause-does c =
    after_none _ _ c.then_eval.ensures.none c.then_eval.ensures.todo (λ todo. rw (todo, c.then_eval.ensures.values, c.then_eval.ensures.locals, c.in-CountRow.is) refl)

pub returns-in-One-clause-does : goal.returns-in-One-clause-does
returns-in-One-clause-does c =
    after_none _ _ c.then_eval-in-One.ensures.none c.then_eval-in-One.ensures.todo (λ todo. rw (todo, c.then_eval-in-One.ensures.values, c.then_eval-in-One.ensures.locals, c.in-One.is) refl)

pub returns-in-Two-clause-does : goal.returns-in-Two-clause-does
returns-in-Two-clause-does c =
    after_none _ _ c.then_both.ensures.none c.then_both.ensures.todo (λ todo. rw (todo, c.then_both.ensures.values, c.then_both.ensures.locals, c.in-Two.is) refl)

pub returns-in-Over-clause-does : goal.returns-in-Over-clause-does
returns-in-Over-clause-does c =
    after_none _ _ c.then_both-in-Over.ensures.none c.then_both-in-Over.ensures.todo (λ todo. rw (todo, c.then_both-in-Over.ensures.values, c.then_both-in-Over.ensures.locals, c.in-Over.is) refl)

pub returns-in_ok-enter_item-in-Apply-clause-does : goal.returns-in_ok-enter_item-in-Apply-clause-does
returns-in_ok-enter_item-in-Apply-clause-does c =
    after_none _ _ c.then_args.ensures.none c.then_args.ensures.todo (λ todo. rw (todo, c.in_ok-enter_item-in-Apply.ensures, c.then_args.ensures.values, c.then_args.ensures.locals, c.in-Apply.is) refl)

pub returns-in_ok-enter_by_item-in-ApplyBy-clause-does : goal.returns-in_ok-enter_by_item-in-ApplyBy-clause-does
returns-in_ok-enter_by_item-in-ApplyBy-clause-does c =
    after_none _ _ c.then_call.ensures.none c.then_call.ensures.todo (λ todo. rw (todo, c.in_ok-enter_by_item-in-ApplyBy.ensures, c.then_call.ensures.values, c.then_call.ensures.locals, c.in-ApplyBy.is) refl)
