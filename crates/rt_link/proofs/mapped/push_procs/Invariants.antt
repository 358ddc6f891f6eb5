use Rattle.std.proofs.Common.{◌≡◌, ◌++◌, drop}
use Rattle.rt_link.specs.Mapped.{procs_from}
use Rattle.rt_link.proofs.mapped.push_procs.Given as goal

abbrev pub invariant-loop-number : goal.invariant-loop-number
invariant-loop-number l =
    l.made ++ procs_from l.linking.objects.now l.linking.stacks.now l.object.title l.«module» l.number (drop l.number l.bricks) ≡ l.fn.made ++ procs_from l.linking.objects.now l.linking.stacks.now l.object.title l.«module» 0 l.bricks
