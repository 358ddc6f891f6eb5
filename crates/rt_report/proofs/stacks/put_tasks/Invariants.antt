use Rattle.std.proofs.Common.{◌≡◌, ◌++◌, drop}
use Rattle.rt_report.specs.StackNeeds.{need_in}
use Rattle.rt_report.specs.Stacks.{tasks_text}
use Rattle.rt_report.proofs.stacks.put_tasks.Given as goal

-- What is written and what is left are all of it.
abbrev pub invariant-loop-task : goal.invariant-loop-task
invariant-loop-task l = l.out.items ++ tasks_text (need_in l.map) l.objects (drop l.task-index l.tasks) ≡ l.initial.out.items ++ tasks_text (need_in l.map) l.objects l.tasks
