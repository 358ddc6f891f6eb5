-- What the cut of what is left of a text begins with.
use Rattle.std.specs.Prelude.{ℕ, ◌+◌, ◌<◌, ◌≤◌, List, [], ◌∷◌, length, None}
use Rattle.rt_pieces.specs.declared.cut.Found.{Found}
use Rattle.rt_pieces.specs.declared.cut.Rest.{Rest}
use Rattle.rt_pieces.specs.declared.cut.Seen.{Seen}
use Rattle.rt_pieces.specs.declared.cut.Seen.TheVariants as seen
use Rattle.rt_pieces.specs.Cutting.{Piece, End, Clean, Stops, Cut}

-- these bytes can be left of a text of so many: it has a byte for each line before theirs
pub record IsInside (total line : ℕ) (bytes : List ℕ) : Type 0 where
  pub first : 1 ≤ line
  pub last : line + length bytes ≤ total + 1

abbrev pub found_piece : Found → Piece
found_piece found = record { base = found.base; text = found.text.now; line = found.span.line; from = found.span.from; to = found.span.to }

-- However the rest is cut: with this piece before it, so are these bytes.
pub record Leads (total n : ℕ) (bytes : List ℕ) (found : Found) (rest : Rest) : Type 0 where
  pub cut : (ps : List Piece) (e : End) → Cut total None rest.line rest.bytes.now ps e → Cut total None n bytes (found_piece found ∷ ps) e
  pub inside : IsInside total rest.line rest.bytes.now
  pub shorter : length rest.bytes.now < length bytes

-- Of a text of so many bytes these are left, which begin in line n: their cut ends with no piece, or begins with this one.
abbrev pub BeginsWith : ℕ → ℕ → List ℕ → Seen → Type 0
BeginsWith total n bytes seen.End = Cut total None n bytes [] Clean
BeginsWith total n bytes (seen.Fault f) = Cut total None n bytes [] (Stops f)
BeginsWith total n bytes (seen.Piece found rest) = Leads total n bytes found rest
