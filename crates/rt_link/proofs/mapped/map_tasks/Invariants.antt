use Rattle.std.proofs.Common.{◌≡◌, ◌++◌, drop}
use Rattle.rt_link.specs.Mapped.{map_tasks}
use Rattle.rt_link.proofs.mapped.map_tasks.Given as goal

abbrev pub invariant-loop-number : goal.invariant-loop-number
invariant-loop-number l =
    l.made ++ map_tasks l.linking.objects.now l.linking.stacks.now l.number (drop l.number l.tasks) (drop l.number l.linking.stacks.now) (drop l.number l.needs) ≡ map_tasks l.linking.objects.now l.linking.stacks.now 0 l.tasks l.linking.stacks.now l.needs
