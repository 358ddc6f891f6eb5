use Rattle.std.proofs.Common.{◌≡◌, true, false, ◌∙◌, rules}
use Rattle.std.specs.Prelude.{slice_get}
use Rattle.rt_run.specs.Boundaries.{is_due}
use Rattle.rt_run.proofs.Settling.{not_due, none_of, none_left, way_goes_on}
use Rattle.rt_run.proofs.settle.settle.Goals as goal

pub returns-then-not-is_due-clause-settled : goal.returns-then-not-is_due-clause-settled
returns-then-not-is_due-clause-settled c =
    let e : is_due c.in-Some.gap c.loop-gap.supervisor c.loop-gap.timetable.since ≡ false = rw (← c.since.ensures, ← c.is_due.ensures.value) (search rules) in
    λ s h. c.loop-gap.invariant.same s h ∙ not_due c.args.steps c.loop-gap.supervisor c.loop-gap.timetable c.in-Some.gap s c.in-Some.ensures e

pub loop-gap-preserved : goal.loop-gap-preserved
loop-gap-preserved c =
    let e : is_due c.in-Some.gap c.loop-gap.supervisor c.loop-gap.timetable.since ≡ true = rw (← c.since.ensures, ← c.is_due.ensures.value) (search rules) in
    let way = way_goes_on c.clock_and_stamp_stay_low.ensures.tick c.args.steps c.args.tasks c.args.supervisor.now c.args.timetable.now c.loop-gap.supervisor c.loop-gap.timetable c.in-Some.gap c.loop-gap.invariant c.in-Some.ensures e c.is_due.ensures.ranges in
    rw (c.tick.ensures.tick, c.take.ensures) way

pub returns-clause-settled : goal.returns-clause-settled
returns-clause-settled c =
    λ s h. c.loop-gap.invariant.same s h ∙ none_left c.loop-gap.supervisor c.loop-gap.timetable s (none_of c.gap.result (slice_get c.loop-gap.timetable.gaps 0) c.in_default.not-Some c.gap.ensures)
