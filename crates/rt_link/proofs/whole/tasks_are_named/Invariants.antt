use Rattle.std.proofs.Common.{ℕ, ◌<◌, get_or}
use Rattle.rt_system.specs.declared.parts.Task.{Task}
use Rattle.rt_link.specs.Imaged.{HasName}
use Rattle.rt_link.proofs.whole.tasks_are_named.Given as goal

abbrev pub invariant-loop-task : goal.invariant-loop-task
invariant-loop-task l = (k : ℕ) (d : Task) → k < l.task-index → HasName (get_or l.tasks k d)
