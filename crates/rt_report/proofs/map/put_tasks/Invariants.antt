use Rattle.std.proofs.Common.{◌≡◌, ◌++◌, drop}
use Rattle.rt_report.specs.Maps.{task_lines}
use Rattle.rt_report.proofs.map.put_tasks.Given as goal

-- What is written and what is left are all of it.
abbrev pub invariant-loop-task : goal.invariant-loop-task
invariant-loop-task l = l.out.items ++ task_lines (drop l.task-index l.tasks) ≡ l.initial.out.items ++ task_lines l.tasks
