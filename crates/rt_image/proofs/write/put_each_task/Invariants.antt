use Rattle.std.proofs.Common.{◌≡◌, ◌++◌, drop}
use Rattle.rt_words.specs.Spelling.{spell_all}
use Rattle.rt_image.specs.Spelling.{task_spelling}
use Rattle.rt_image.proofs.write.put_each_task.Given as goal

-- What is written and what is left are all of them.
abbrev pub invariant-loop-task : goal.invariant-loop-task
invariant-loop-task l = l.out.items ++ spell_all task_spelling (drop l.task-index l.tasks) ≡ l.initial.out.items ++ spell_all task_spelling l.tasks
