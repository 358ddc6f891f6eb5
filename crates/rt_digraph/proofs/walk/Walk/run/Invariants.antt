use Rattle.std.proofs.Common.{ℕ, List, ◌+◌, length}
use Rattle.rt_digraph.specs.Going.{IsGoing, KeepsMarks, left}
use Rattle.rt_digraph.proofs.walk.Walk.run.Given as goal

-- whatever the roots are, the walk goes on from them; what was marked stays so
abbrev pub invariant-loop-node : goal.invariant-loop-node
invariant-loop-node l = ((roots : List ℕ) → IsGoing l.graph roots l.stop l.initial.self → IsGoing l.graph roots l.stop l.self) × KeepsMarks l.initial.self.states l.self.states

abbrev pub decreases-loop-node : goal.decreases-loop-node
decreases-loop-node l = left l.graph l.self.states + length l.self.path
