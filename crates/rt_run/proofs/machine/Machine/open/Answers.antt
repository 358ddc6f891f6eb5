use Rattle.std.proofs.Common.{refl}
use Rattle.rt_run.specs.declared.machine.Machine.{Machine}
use Rattle.rt_run.proofs.Starting.{opened_complete}
use Rattle.rt_run.proofs.machine.Machine.open.Goals as goal

pub returns-clause-complete : goal.returns-clause-complete
returns-clause-complete c =
    let m : Machine = record { shared = c.in_ok-shared.shared; tasks = c.in_ok-tasks.tasks; supervisor = c.in_ok-supervisor.supervisor; timetable = c.args.timetable; instructions = 0; steps = 0 } in
    opened_complete c.args.image.now m c.args.timetable c.parts-parts.ensures.ranges (record { shared = c.in_ok-shared.ensures; started = c.in_ok-tasks.ensures; supervisor = c.in_ok-supervisor.ensures.start; timetable = refl; count = refl; marks = refl }) c.requires.fresh c.requires.few
