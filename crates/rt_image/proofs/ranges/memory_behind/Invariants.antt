use Rattle.std.proofs.Common.{◌≡◌, ◌+◌, ◌*◌, ◌≤◌, take}
use Rattle.rt_image.proofs.Sizes.{size_of}
use Rattle.rt_image.proofs.ranges.memory_behind.Given as goal

abbrev pub invariant-loop-task : goal.invariant-loop-task
invariant-loop-task l = record { end : l.end ≡ l.used + size_of (take l.task-index l.tasks); small : l.end ≤ l.used + 131086 * l.task-index }
