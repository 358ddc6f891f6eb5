-- The lines of a text, with their ends.
use Rattle.std.specs.Prelude.{ℕ, ◌==◌, if◌then◌else◌, List, [], ◌∷◌}
use Rattle.rt_system.specs.Lines.{in_front}

-- LF ends a line and belongs to it. What stands behind the last LF, be it nothing, is the last line.
unfoldable pub lines_of : List ℕ → List (List ℕ)
lines_of [] = [] ∷ []
lines_of (c ∷ cs) = if c == 10 then (c ∷ []) ∷ lines_of cs else in_front c (lines_of cs)
