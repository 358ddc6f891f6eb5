use Rattle.std.proofs.Common.{ℕ, List}
use Rattle.rt_digraph.specs.Going.{IsWhole}
use Rattle.rt_digraph.proofs.Ends.{NoneBelow}
use Rattle.rt_digraph.proofs.sorting.first_cycle.Given as goal

-- none of the nodes looked at is reached and lies on a cycle
abbrev pub invariant-loop-node : goal.invariant-loop-node
invariant-loop-node l = (roots : List ℕ) → IsWhole l.graph roots l.walk → NoneBelow l.graph roots l.node
