use Rattle.std.proofs.Common.{◌≡◌, ◌+◌, ◌-◌, arith, subst, sym}
use Rattle.rt_rules.specs.Roster.{IsTask}
use Rattle.rt_rules.proofs.Counting.{Counting, counting_step, counting_all}
use Rattle.rt_rules.proofs.rules.Rules.count_down.Goals as goal

pub loop-task-preserved : goal.loop-task-preserved
loop-task-preserved c =
    let counts : Counting c.args.self.now c.loop-task.self (c.loop-task.task - 1) = c.loop-task.invariant.2 in
    let there : IsTask c.loop-task.self c.loop-task.task =
    (c.loop-task.auto.task, omega (arith, counts.same, c.loop-task.invariant.0)) in
    let step : Counting c.args.self.now c.count_task.new.self c.loop-task.task =
    subst (λ q. Counting c.args.self.now q c.loop-task.task) (sym c.count_task.ensures)
    (counting_step c.args.self.now c.loop-task.self c.loop-task.task counts there) in
    let next : c.loop-task.task ≡ c.loop-task.task + 1 - 1 = omega arith in (
      c.loop-task.invariant.0,
      c.loop-task.invariant.1,
      subst (λ k. Counting c.args.self.now c.count_task.new.self k) next step,
    )

pub returns : goal.returns
returns c =
    let counts : Counting c.args.self.now c.loop-task.self (c.loop-task.task - 1) = c.loop-task.invariant.2 in
    counting_all c.args.self.now c.loop-task.self (c.loop-task.task - 1) counts (omega (arith, counts.same, c.loop-task.invariant.0))
