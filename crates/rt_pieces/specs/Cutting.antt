-- The cut of a text into layout, comments and pieces, each piece the longest that begins there.
use Rattle.std.specs.Prelude.{◌≡◌, ◌≢◌, ℕ, ◌+◌, ◌-◌, Bool, true, false, ◌||◌, ◌==◌, List, [], ◌∷◌, ◌++◌, length, Option, Some, None}
use Rattle.rt_pieces.specs.declared.number.Base.{Base}
use Rattle.rt_pieces.specs.declared.number.Opened.{Opened}
use Rattle.rt_pieces.specs.declared.fault.TextFault.{TextFault}
use Rattle.rt_pieces.specs.declared.fault.TextFault.TheVariants.{BadCharacter, OpenComment}
use Rattle.rt_pieces.specs.Bytes.{is_blank, is_letter_or_digit, in_comment, lines_in, Each, Ends}
use Rattle.rt_pieces.specs.Pieces.{base_of, IsPiece}

-- a piece of the text, with its line and span; the digits behind BIN, OCT or HEX have that base, and begin at that word
pub record Piece : Type 0 where
  pub base : Option Base
  pub text : List ℕ
  pub line : ℕ
  pub from : ℕ
  pub to : ℕ

-- how the cut ends: with the text, or at a place that can't be cut
pub data End : Type 0 where
  Clean : End
  Stops : TextFault → End

-- the place, in a text of so many bytes, where this rest of it begins
abbrev pub place : ℕ → List ℕ → ℕ
place total rest = total - length rest

abbrev pub begins_gap : List ℕ → Bool
begins_gap [] = false
begins_gap (b ∷ bs) = is_blank b || b == 37

abbrev pub piece_at : ℕ → ℕ → List ℕ → List ℕ → List ℕ → Piece
piece_at total n bytes text rest = record { base = None; text = text; line = n; from = place total bytes; to = place total rest }

abbrev pub digits_of : ℕ → Opened → List ℕ → List ℕ → Piece
digits_of total o run rest = record { base = Some o.base; text = run; line = o.line; from = o.from; to = place total rest }

-- The bytes, which begin in line n, are cut into these pieces, and so the cut ends; where digits of a base are still to come, they are the next piece.
pub data Cut (total : ℕ) : Option Opened → ℕ → List ℕ → List Piece → End → Type 0 where
  finish : {n : ℕ} → Cut total None n [] [] Clean
  blank : {o : Option Opened} {n b : ℕ} {bs : List ℕ} {ps : List Piece} {e : End} → is_blank b ≡ true → Cut total o (n + lines_in (b ∷ [])) bs ps e → Cut total o n (b ∷ bs) ps e
  comment : {o : Option Opened} {n : ℕ} (body : List ℕ) {bs rest : List ℕ} {ps : List Piece} {e : End} → bs ≡ body ++ 37 ∷ rest → Each in_comment body
      → Cut total o (n + lines_in body) rest ps e → Cut total o n (37 ∷ bs) ps e
  open_comment : {o : Option Opened} {n : ℕ} {bs : List ℕ} → Each in_comment bs → Cut total o n (37 ∷ bs) [] (Stops (OpenComment n))
  base : {n : ℕ} (text : List ℕ) {bytes rest : List ℕ} {b : Base} {ps : List Piece} {e : End} → bytes ≡ text ++ rest → IsPiece text rest → base_of text ≡ Some b
      → Cut total (Some (record { base = b; line = n; from = place total bytes })) n rest ps e → Cut total None n bytes ps e
  digits : {o : Opened} {n : ℕ} (run : List ℕ) {bytes rest : List ℕ} {ps : List Piece} {e : End} → bytes ≡ run ++ rest → begins_gap bytes ≡ false → Each is_letter_or_digit run → Ends is_letter_or_digit rest
      → Cut total None n rest ps e → Cut total (Some o) n bytes (digits_of total o run rest ∷ ps) e
  piece : {n : ℕ} (text : List ℕ) {bytes rest : List ℕ} {ps : List Piece} {e : End} → bytes ≡ text ++ rest → IsPiece text rest → base_of text ≡ None
      → Cut total None n rest ps e → Cut total None n bytes (piece_at total n bytes text rest ∷ ps) e
  bad : {n b : ℕ} {bs : List ℕ} → is_blank b ≡ false → b ≢ 37 → ((text rest : List ℕ) → b ∷ bs ≡ text ++ rest → IsPiece text rest → ⊥) → Cut total None n (b ∷ bs) [] (Stops (BadCharacter n))

-- the same bytes are cut in one way only, and all bytes are cut in some way
abbrev pub HaveOneCut : Type 0
HaveOneCut = (total : ℕ) (o : Option Opened) (n : ℕ) (bytes : List ℕ) (ps qs : List Piece) (d e : End) → Cut total o n bytes ps d → Cut total o n bytes qs e → (ps ≡ qs) × (d ≡ e)

abbrev pub HaveSomeCut : Type 0
HaveSomeCut = (total : ℕ) (o : Option Opened) (n : ℕ) (bytes : List ℕ) → (ps : List Piece) × (e : End) × Cut total o n bytes ps e
