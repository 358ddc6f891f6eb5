use Rattle.std.proofs.Common.{◌∙◌, sym, arith}
use Rattle.std.proofs.lemmas.List.{length-set}
use Rattle.rt_meaning.proofs.Tasks.{stepped_state, count_kept, raised_kept}
use Rattle.rt_meaning.proofs.state.SourceState.step.Goals as goal

pub invariant_of-self : goal.invariant_of-self
invariant_of-self c =
    record { counted = length-set _ _ _ ∙ c.args.self.now.counted ∙ sym (count_kept c.args.self.now.modules c.args.self.now.common c.step_task.new.common c.index_mut-task.result.now c.step_task.new.task c.in-Some.number c.args.input c.step_task.result c.in-Some.ensures.ranges c.step_task.ensures.moves c.step_task.ensures.same) }

pub returns-clause-stepped : goal.returns-clause-stepped
returns-clause-stepped c =
    let there = c.in-Some.ensures.there in
    let counted = c.args.self.now.counted in
    rw c.from.ensures (stepped_state c.args.self.now.modules c.args.self.now.common c.step_task.new.common c.args.self.now.tasks.items c.index_mut-task.result.now c.step_task.new.task c.in-Some.number c.args.input c.in_ok-done-in-Some.done (sym c.in-Some.ensures.value) (omega (arith, there, counted)) (rw c.from.ensures at c.index_mut-task.ensures.value) c.in_ok-done-in-Some.ensures.moves)

pub returns-clause-clock_after : goal.returns-clause-clock_after
returns-clause-clock_after c =
    (raised_kept c.args.self.now.modules c.args.self.now.common c.step_task.new.common c.index_mut-task.result.now c.step_task.new.task c.in-Some.number c.args.input c.step_task.result c.in-Some.ensures.ranges (sym c.in-Some.ensures.value) c.step_task.ensures.moves c.step_task.ensures.same).0

pub returns-clause-stamp_after : goal.returns-clause-stamp_after
returns-clause-stamp_after c =
    (raised_kept c.args.self.now.modules c.args.self.now.common c.step_task.new.common c.index_mut-task.result.now c.step_task.new.task c.in-Some.number c.args.input c.step_task.result c.in-Some.ensures.ranges (sym c.in-Some.ensures.value) c.step_task.ensures.moves c.step_task.ensures.same).1
