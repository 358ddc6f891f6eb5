use Rattle.std.proofs.Common.{length}
use Rattle.rt_digraph.specs.Going.{IsOver}
use Rattle.rt_digraph.proofs.Ends.{AreMarkedBelow}
use Rattle.rt_digraph.proofs.sorting.walk_from.Given as goal

-- the walk from the roots looked at is over, and these are marked
abbrev pub invariant-loop-root : goal.invariant-loop-root
invariant-loop-root l = IsOver l.graph l.roots (length l.graph) l.walk × AreMarkedBelow l.graph l.roots l.root-index l.walk.states
