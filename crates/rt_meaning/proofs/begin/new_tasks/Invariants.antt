use Rattle.std.proofs.Common.{◌≡◌, take}
use Rattle.rt_meaning.specs.States.{tasks}
use Rattle.rt_meaning.specs.Run.{tasks_of}
use Rattle.rt_meaning.specs.Roots.{roots}
use Rattle.rt_meaning.proofs.begin.new_tasks.Given as goal

abbrev pub invariant-loop-task : goal.invariant-loop-task
invariant-loop-task l = tasks l.all ≡ tasks_of (roots (take l.task-index l.tasks))
