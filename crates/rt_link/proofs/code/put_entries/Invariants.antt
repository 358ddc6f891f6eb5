use Rattle.std.proofs.Common.{◌≡◌, ◌++◌, drop}
use Rattle.std.specs.List.{flat_map}
use Rattle.rt_templates.specs.Lines.{words}
use Rattle.rt_link.specs.Imaged.{root_entering}
use Rattle.rt_link.proofs.code.put_entries.Given as goal

abbrev pub invariant-loop-root : goal.invariant-loop-root
invariant-loop-root l =
    l.out.items ++ flat_map (λ f. words (root_entering l.linking.objects.now l.linking.stacks.now l.linking.bindings.now.of f)) (drop l.root-index l.roots)
    ≡ l.fn.out.items ++ flat_map (λ f. words (root_entering l.linking.objects.now l.linking.stacks.now l.linking.bindings.now.of f)) l.roots
