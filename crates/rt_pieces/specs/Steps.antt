-- The cut of a text step by step, as a function.
use Rattle.std.specs.Prelude.{◌≡◌, ℕ, zero, suc, ◌+◌, ◌*◌, ◌<◌, ◌≤◌, ◌&&◌, ◌==◌, if◌then◌else◌, List, [], ◌∷◌, length, take, drop, take_while, Option, Some, None, is_some}
use Rattle.rt_pieces.specs.declared.number.Base.{Base}
use Rattle.rt_pieces.specs.declared.number.Opened.{Opened}
use Rattle.rt_pieces.specs.declared.fault.TextFault.TheVariants.{BadCharacter, OpenComment}
use Rattle.rt_pieces.specs.declared.step.Step.{Step}
use Rattle.rt_pieces.specs.declared.step.Step.TheVariants as step
use Rattle.rt_pieces.specs.declared.cut.Cursor.{Cursor}
use Rattle.rt_pieces.specs.declared.cut.Look.{Look}
use Rattle.rt_pieces.specs.declared.cut.Look.TheVariants as look
use Rattle.rt_pieces.specs.declared.cut.Seen.{Seen}
use Rattle.rt_pieces.specs.declared.cut.Seen.TheVariants as seen
use Rattle.rt_pieces.specs.Bytes.{is_blank, is_letter, is_digit, is_letter_or_digit, is_printable, in_comment, in_string, lines_in}
use Rattle.rt_pieces.specs.Pieces.{base_of, mark_of_one, mark_of_two, mark_of_three}
use Rattle.rt_pieces.specs.Cutting.{Piece, End, Clean, Stops, piece_at, digits_of, place}
use Rattle.rt_pieces.specs.Begins.{IsInside, found_piece}

abbrev pub comment_step : List ℕ → Step
comment_step bs = let len = length (take_while in_comment bs) in if len == length bs then step.Open else step.Skip (len + 2) (lines_in (take len bs))

abbrev pub character_step : List ℕ → Step
character_step [] = step.Bad
character_step (c ∷ []) = step.Bad
character_step (c ∷ d ∷ bs) = if is_printable c && d == 39 then step.Cut 3 else step.Bad

abbrev pub string_end : ℕ → List ℕ → Step
string_end len [] = step.Cut (len + 1)
string_end len (b ∷ bs) = if b == 34 then step.Cut (len + 2) else step.Cut (len + 1)

abbrev pub string_step : List ℕ → Step
string_step bs = let len = length (take_while in_string bs) in string_end len (drop len bs)

abbrev pub one_step : ℕ → Step
one_step a = if is_some (mark_of_one a) then step.Cut 1 else step.Bad

abbrev pub two_step : ℕ → ℕ → Step
two_step a b = if is_some (mark_of_two a b) then step.Cut 2 else one_step a

abbrev pub mark_step : ℕ → List ℕ → Step
mark_step a [] = one_step a
mark_step a (b ∷ []) = two_step a b
mark_step a (b ∷ c ∷ bs) = if is_some (mark_of_three a b c) then step.Cut 3 else two_step a b

unfoldable pub step_of : List ℕ → Step
step_of [] = step.Finish
step_of (b ∷ bs) =
    if is_blank b then step.Skip 1 (lines_in (b ∷ []))
    else (if b == 37 then comment_step bs
    else (if is_letter b then step.Cut (length (take_while is_letter_or_digit bs) + 1)
    else (if is_digit b then step.Cut (length (take_while is_digit bs) + 1)
    else (if b == 39 then character_step bs
    else (if b == 34 then string_step bs else mark_step b bs)))))

-- where the digits of a base are still to come
unfoldable pub digits_step : List ℕ → Step
digits_step [] = step.Cut 0
digits_step (b ∷ bs) =
    if is_blank b then step.Skip 1 (lines_in (b ∷ [])) else (if b == 37 then comment_step bs else step.Cut (length (take_while is_letter_or_digit (b ∷ bs))))

abbrev pub next_step : Option Opened → List ℕ → Step
next_step None bytes = step_of bytes
next_step (Some o) bytes = digits_step bytes

abbrev pub Cuts : Type 0
Cuts = List Piece × End

abbrev pub before : Piece → Cuts → Cuts
before p others = (p ∷ others.0, others.1)

abbrev pub Cutter : Type 0
Cutter = Option Opened → ℕ → List ℕ → Cuts

abbrev pub cut_base : Cutter → ℕ → ℕ → List ℕ → List ℕ → List ℕ → Option Base → Cuts
cut_base go total n bytes text rest (Some b) = go (Some (record { base = b; line = n; from = place total bytes })) n rest
cut_base go total n bytes text rest None = before (piece_at total n bytes text rest) (go None n rest)

abbrev pub cut_piece : Cutter → ℕ → Option Opened → ℕ → List ℕ → List ℕ → List ℕ → Cuts
cut_piece go total None n bytes text rest = cut_base go total n bytes text rest (base_of text)
cut_piece go total (Some o) n bytes text rest = before (digits_of total o text rest) (go None n rest)

abbrev pub after_step : Cutter → ℕ → Option Opened → ℕ → List ℕ → Step → Cuts
after_step go total o n bytes step.Finish = ([], Clean)
after_step go total o n bytes (step.Skip len lines) = go o (n + lines) (drop len bytes)
after_step go total o n bytes (step.Cut len) = cut_piece go total o n bytes (take len bytes) (drop len bytes)
after_step go total o n bytes step.Open = ([], Stops (OpenComment n))
after_step go total o n bytes step.Bad = ([], Stops (BadCharacter n))

-- in at most so many steps
unfoldable pub cut_from : ℕ → ℕ → Cutter
cut_from total zero o n bytes = ([], Clean)
cut_from total (suc fuel) o n bytes = after_step (cut_from total fuel) total o n bytes (next_step o bytes)

-- one digits' step more
abbrev pub pending : Option Opened → ℕ
pending None = 0
pending (Some o) = 1

-- a step stays in the text, takes a byte or more of it, and counts no more lines than bytes; digits of a base may be none
abbrev pub IsWithin : Option Opened → ℕ → Step → Type 0
IsWithin o n step.Finish = Unit {0}
IsWithin o n (step.Skip len lines) = (1 ≤ len) × (len ≤ n) × (lines ≤ len)
IsWithin o n (step.Cut len) = (1 ≤ len + pending o) × (len ≤ n)
IsWithin o n step.Open = Unit {0}
IsWithin o n step.Bad = Unit {0}

-- ---- place by place

-- more than the steps that are left
abbrev pub weight : Option Opened → List ℕ → ℕ
weight o bytes = 2 * length bytes + pending o

-- the cut of what is left
unfoldable pub cuts_of : ℕ → Cutter
cuts_of total o n bytes = cut_from total (weight o bytes + 1) o n bytes

abbrev pub cuts_at : ℕ → Cursor → Cuts
cuts_at total cursor = cuts_of total cursor.opened cursor.line cursor.rest.now

-- what is left there comes to this cut, and behind a step, which leaves less, the rest lies in the text
pub record GoesOn (total : ℕ) (o : Option Opened) (n : ℕ) (bytes : List ℕ) (p : Option Opened) (m : ℕ) (rest : List ℕ) (cuts : Cuts) : Type 0 where
  pub is : cuts_of total o n bytes ≡ cuts
  pub inside : IsInside total m rest
  pub smaller : weight p rest < weight o bytes

-- what is seen at a place
abbrev pub SeesAt : ℕ → Option Opened → ℕ → List ℕ → Seen → Type 0
SeesAt total o n bytes seen.End = cuts_of total o n bytes ≡ ([], Clean)
SeesAt total o n bytes (seen.Fault f) = cuts_of total o n bytes ≡ ([], Stops f)
SeesAt total o n bytes (seen.Piece found rest) = GoesOn total o n bytes None rest.line rest.bytes.now (before (found_piece found) (cuts_of total None rest.line rest.bytes.now))

abbrev pub LooksAt : ℕ → Option Opened → ℕ → List ℕ → Look → Type 0
LooksAt total o n bytes (look.Gap next) = GoesOn total o n bytes next.opened next.line next.rest.now (cuts_at total next)
LooksAt total o n bytes (look.Sees s) = SeesAt total o n bytes s
