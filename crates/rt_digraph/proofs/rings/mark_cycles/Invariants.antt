use Rattle.rt_digraph.specs.Rings.{AreMarkedBelow}
use Rattle.rt_digraph.proofs.rings.mark_cycles.Given as goal

abbrev pub invariant-loop-node : goal.invariant-loop-node
invariant-loop-node l = AreMarkedBelow l.graph l.node l.marks.items
