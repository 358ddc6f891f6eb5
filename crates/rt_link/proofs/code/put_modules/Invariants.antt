use Rattle.std.proofs.Common.{◌≡◌, suc, ◌++◌, drop}
use Rattle.rt_link.specs.Imaged.{modules_words}
use Rattle.rt_link.proofs.code.put_modules.Given as goal

abbrev pub invariant-loop-at : goal.invariant-loop-at
invariant-loop-at l =
    l.out.items ++ modules_words l.linking.objects.now l.linking.stacks.now l.linking.bindings.now.of (suc l.at) (drop l.at l.linking.objects.now)
    ≡ l.fn.out.items ++ modules_words l.linking.objects.now l.linking.stacks.now l.linking.bindings.now.of 1 l.linking.objects.now
