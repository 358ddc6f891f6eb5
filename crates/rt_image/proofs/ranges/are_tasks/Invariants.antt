use Rattle.std.proofs.Common.{ℕ, ◌<◌, get_or}
use Rattle.rt_image.specs.declared.image.ImageTask.{ImageTask}
use Rattle.rt_image.specs.Ranges.{HasTaskRanges}
use Rattle.rt_image.proofs.ranges.are_tasks.Given as goal

abbrev pub invariant-loop-task : goal.invariant-loop-task
invariant-loop-task l = (k : ℕ) (d : ImageTask) → k < l.task-index → HasTaskRanges l.code_end (get_or l.tasks k d)
