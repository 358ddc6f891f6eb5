use Rattle.std.proofs.Common.{◌≡◌, ◌↔◌, length}
use Rattle.rt_modes.specs.Left.{rest_of}
use Rattle.rt_modes.proofs.same.same_text.Given as goal

-- What is left is the same exactly where all was.
abbrev pub invariant-loop-byte : goal.invariant-loop-byte
invariant-loop-byte l = (rest_of l.left ≡ rest_of l.right) ↔ (rest_of l.initial.left ≡ rest_of l.initial.right)

abbrev pub decreases-loop-byte : goal.decreases-loop-byte
decreases-loop-byte l = length (rest_of l.left)
