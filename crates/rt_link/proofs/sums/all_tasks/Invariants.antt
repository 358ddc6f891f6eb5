use Rattle.std.proofs.Common.{◌≡◌, ◌*◌, ◌≤◌, take}
use Rattle.std.specs.List.{sum_by}
use Rattle.rt_link.specs.Room.{task_bytes}
use Rattle.rt_link.proofs.sums.all_tasks.Given as goal

abbrev pub invariant-loop-stack : goal.invariant-loop-stack
invariant-loop-stack l = record { sum : l.total ≡ sum_by (task_bytes l.objects) (take l.stack-index l.stacks); small : l.total ≤ 131086 * l.stack-index }
