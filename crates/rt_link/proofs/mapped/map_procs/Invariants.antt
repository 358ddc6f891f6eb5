use Rattle.std.proofs.Common.{◌≡◌, suc, ◌++◌, drop}
use Rattle.rt_link.specs.Mapped.{modules_procs}
use Rattle.rt_link.proofs.mapped.map_procs.Given as goal

abbrev pub invariant-loop-at : goal.invariant-loop-at
invariant-loop-at l = l.made ++ modules_procs l.linking.objects.now l.linking.stacks.now (suc l.at) (drop l.at l.linking.objects.now) ≡ modules_procs l.linking.objects.now l.linking.stacks.now 1 l.linking.objects.now
