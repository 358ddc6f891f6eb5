use Rattle.rt_work.proofs.control.count_to.Goals as goal

pub returns-in_ok-done-in-Some-clause-does : goal.returns-in_ok-done-in-Some-clause-does
returns-in_ok-done-in-Some-clause-does c =
    λ e. rw (c.in-Some.ensures.value, ← c.in-Some.ensures.locals, ← c.turns_to-turns.ensures, ← c.in-Some.ensures.todo) (c.in_ok-done-in-Some.ensures.does e)
