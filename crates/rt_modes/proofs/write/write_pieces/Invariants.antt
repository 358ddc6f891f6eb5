use Rattle.std.proofs.Common.{◌≡◌, [], ◌++◌, length}
use Rattle.rt_modes.specs.Left.{left, text_of}
use Rattle.rt_modes.proofs.write.write_pieces.Given as goal

-- The piece is empty, and what is written and what is left are the whole text.
abbrev pub invariant-loop-piece : goal.invariant-loop-piece
invariant-loop-piece l = record { empty : l.piece.items ≡ []; whole : l.out.items ++ text_of l.pieces ≡ l.initial.out.items ++ text_of l.initial.pieces }

abbrev pub decreases-loop-piece : goal.decreases-loop-piece
decreases-loop-piece l = length (left l.pieces)
