use Rattle.std.proofs.Common.{◌≡◌, drop}
use Rattle.rt_image.specs.Grammar.{is_new}
use Rattle.rt_image.proofs.ranges.is_new.Given as goal

abbrev pub invariant-loop-task : goal.invariant-loop-task
invariant-loop-task l = is_new (drop l.task-index l.tasks) l.name ≡ is_new l.tasks l.name
