use Rattle.rt_digraph.proofs.Told.{AreUnmarked}
use Rattle.rt_digraph.proofs.alone.unmark_all.Given as goal

-- no node to which one before leads, of the same number, is marked
abbrev pub invariant-loop-node : goal.invariant-loop-node
invariant-loop-node l = AreUnmarked l.numbers l.graph l.node l.marks
