use Rattle.std.proofs.Common.{◌≡◌, ◌++◌, drop}
use Rattle.rt_graph.specs.Nodes.{root_numbers}
use Rattle.rt_graph.proofs.sorting.root_numbers.Given as goal

abbrev pub invariant-loop-root : goal.invariant-loop-root
invariant-loop-root l = l.numbers ++ root_numbers l.objects (drop l.root-index l.roots) ≡ root_numbers l.objects l.roots
