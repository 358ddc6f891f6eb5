use Rattle.rt_digraph.proofs.Told.{AreRanksBelow}
use Rattle.rt_digraph.proofs.alone.are_ranks.Given as goal

-- none of the nodes before this one has a successor of a greater number
abbrev pub invariant-loop-node : goal.invariant-loop-node
invariant-loop-node l = AreRanksBelow l.numbers l.graph l.node
