use Rattle.std.proofs.Common.{◌≡◌, ◌++◌, drop}
use Rattle.rt_headline.specs.Carrying.{names_of}
use Rattle.rt_top.proofs.running.copy_names.Given as goal

abbrev pub invariant-loop-task : goal.invariant-loop-task
invariant-loop-task l = l.names ++ names_of (drop l.task-index l.tasks) ≡ names_of l.tasks
