use Rattle.std.proofs.Common.{◌≡◌, ◌++◌, drop}
use Rattle.rt_link.specs.Imaged.{image_tasks}
use Rattle.rt_link.proofs.starts.image_tasks.Given as goal

abbrev pub invariant-loop-number : goal.invariant-loop-number
invariant-loop-number l = l.made ++ image_tasks l.linking.objects.now l.number (drop l.number l.tasks) (drop l.number l.linking.stacks.now) ≡ image_tasks l.linking.objects.now 0 l.tasks l.linking.stacks.now
