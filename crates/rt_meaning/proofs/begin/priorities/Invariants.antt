use Rattle.std.proofs.Common.{◌≡◌, take}
use Rattle.rt_meaning.specs.Roots as roots
use Rattle.rt_meaning.proofs.begin.priorities.Given as goal

abbrev pub invariant-loop-task : goal.invariant-loop-task
invariant-loop-task l = l.priorities ≡ roots.priorities (take l.task-index l.tasks)
