use Rattle.std.proofs.Common.{refl, ◌∙◌}
use Rattle.rt_run.specs.Picture.{standing}
use Rattle.rt_run.proofs.Starting.{shows_start}
use Rattle.rt_run.proofs.run.Run.open.Goals as goal

pub returns : goal.returns
returns c =
    let m = c.in_ok-machine.machine in
    let o = c.in_ok-machine.ensures.opened in
    shows_start c.args.image c.in_ok-machine.ensures.ranges m.tasks.items o.started c.parts_make_one_memory.ensures.side_by_side c.args.ticks (standing m) o.shared refl o.supervisor (o.timetable ∙ c.in_ok-timetable.ensures.start) o.count o.marks
