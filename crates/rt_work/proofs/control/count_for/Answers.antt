use Rattle.rt_work.proofs.control.count_for.Goals as goal

pub returns-in_ok-done-in-Some-Some-clause-does : goal.returns-in_ok-done-in-Some-Some-clause-does
returns-in_ok-done-in-Some-Some-clause-does c =
    let start = rw (c.from.ensures, c.in-Some.ensures.locals) at c.word_at-start.ensures in
    let step = rw (c.from-in-Some.ensures, c.in-Some.ensures.locals) at c.word_at-step.ensures in
    λ e. rw (c.in-Some.ensures.value, ← start, c.in-Some-Some.is-0, ← step, c.in-Some-Some.is-1) (rw (c.in-Some.ensures.todo, c.in-Some.ensures.locals, c.turns-turns.ensures.value) at (c.in_ok-done-in-Some-Some.ensures.does e))
