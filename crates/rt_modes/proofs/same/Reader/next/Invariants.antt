use Rattle.std.proofs.Common.{◌≡◌, length}
use Rattle.rt_modes.specs.Left.{left, rest_of}
use Rattle.rt_modes.proofs.same.Reader.next.Given as goal

abbrev pub invariant-loop-self : goal.invariant-loop-self
invariant-loop-self l = rest_of l.self ≡ rest_of l.initial.self

abbrev pub decreases-loop-self : goal.decreases-loop-self
decreases-loop-self l = length (left l.self.pieces)
