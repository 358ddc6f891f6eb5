use Rattle.std.proofs.Common.{◌≡◌, ◌++◌, drop}
use Rattle.rt_link.specs.Verdict.{stack_bricks}
use Rattle.rt_link.proofs.stacks.stack_bricks.Given as goal

-- What is listed and what is left are all of it.
abbrev pub invariant-loop-task : goal.invariant-loop-task
invariant-loop-task l = l.stacks ++ stack_bricks l.objects (drop l.task-index l.tasks) ≡ stack_bricks l.objects l.tasks
