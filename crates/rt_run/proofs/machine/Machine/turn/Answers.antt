use Rattle.std.proofs.Common.{◌+◌, List, Option, Some, refl, sym, ap, ◌∙◌, arith}
use Rattle.std.specs.Prelude.{slice_set}
use Rattle.rt_tasks.specs.Parts.{Task}
use Rattle.rt_run.specs.declared.machine.Machine.{Machine}
use Rattle.rt_run.specs.Inputs.{feed}
use Rattle.rt_run.proofs.Completing.{complete, turns_by}
use Rattle.rt_run.proofs.machine.Machine.turn.Goals as goal

pub returns-clause-complete : goal.returns-clause-complete
returns-clause-complete g c =
    let m = c.args.self.now in
    let r = c.lend-ran in
    let t2 = r.result.task in
    let k = c.from-n.result in
    rw c.count.ensures (complete m _ k r.result.stretch.count c.take_task-parked.result t2 c.requires.complete c.take_task-parked.ensures.task (omega (arith, r.ensures.counted.within, c.requires.few)) r.ensures.lent.lasts r.ensures.lent.rests (c.put_task.ensures ∙ ap (λ (x : List (Option Task)). slice_set x k (Some t2)) c.take_task-parked.ensures.left) refl refl refl (omega (arith, r.ensures.counted.marks)))

pub returns-clause-turned : goal.returns-clause-turned
returns-clause-turned g c =
    let m = c.args.self.now in
    let r = c.lend-ran in
    let x = r.result.stretch in
    let t2 = r.result.task in
    let k = c.from-n.result in
    let m2 : Machine = record { shared = r.new.shared; tasks = c.put_task.new.tasks; supervisor = r.new.supervisor; timetable = record { gaps = m.timetable.gaps; since = m.timetable.since + x.count; placements = m.timetable.placements }; instructions = m.instructions + x.count; steps = m.steps + x.marks } in
    rw c.count.ensures (turns_by m m2 c.args.task k c.args.most c.take_task-parked.result t2 x (feed (g.I.Source.left c.args.input.now) (g.I.Source.ended c.args.input.now)) (feed (g.I.Source.left r.new.input) (g.I.Source.ended r.new.input)) (g.O.Sink.written c.args.output.now) (g.O.Sink.written r.new.output) (sym c.from-n.ensures) c.requires.complete c.take_task-parked.ensures.task r.ensures.lent (c.put_task.ensures ∙ ap (λ (x : List (Option Task)). slice_set x k (Some t2)) c.take_task-parked.ensures.left) refl refl refl)

pub lend-ran-requires-clause-ends : goal.lend-ran-requires-clause-ends
lend-ran-requires-clause-ends g c = c.requires.complete.ends c.from-n.result c.take_task-parked.result c.take_task-parked.ensures.task
