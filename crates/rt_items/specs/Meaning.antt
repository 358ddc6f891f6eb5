-- What a piece means: an item, or its fault.
use Rattle.std.specs.Prelude.{ℕ, Bool, true, false, ◌==◌, nat_le, if◌then◌else◌, List, [], ◌∷◌, map, length, Option, Some, None, Result, Ok, Err}
use Rattle.std.specs.List.{list_all}
use Rattle.rt_pieces.specs.declared.item.Word.{Word}
use Rattle.rt_pieces.specs.declared.item.Word.TheVariants as w
use Rattle.rt_pieces.specs.declared.item.Mark.{Mark}
use Rattle.rt_pieces.specs.declared.item.ItemKind.{ItemKind}
use Rattle.rt_pieces.specs.declared.item.ItemKind.TheVariants as kind
use Rattle.rt_pieces.specs.declared.number.Base.{Base}
use Rattle.rt_pieces.specs.declared.fault.TextFault.{TextFault}
use Rattle.rt_pieces.specs.declared.fault.TextFault.TheVariants.{BadCharacter, NumberTooLarge, LeftOutWord}
use Rattle.rt_pieces.specs.Bytes.{is_letter, is_digit, is_digit_of, upper, number_of}
use Rattle.rt_pieces.specs.Pieces.{word_of, mark_of, radix}
use Rattle.rt_items.specs.Texts.{Lets, string_of}
use Rattle.rt_pieces.specs.Cutting.{Piece}

abbrev pub Meant : Type 0
Meant = Result ItemKind TextFault

-- the words of real arithmetic and of machine code are left out
abbrev pub is_left_out : Word → Bool
is_left_out w.Real = true
is_left_out w.Code = true
is_left_out _ = false

abbrev pub word_or_name : ℕ → List ℕ → Option Word → Meant
word_or_name n name (Some word) = if is_left_out word then Err (LeftOutWord n) else Ok (kind.Word word)
word_or_name n name None = Ok (kind.Name name)

-- a name has at most 32 bytes
abbrev pub name_meant : ℕ → List ℕ → Meant
name_meant n name = if nat_le (length name) 32 then word_or_name n name (word_of name) else Err (BadCharacter n)

abbrev pub number_meant : ℕ → ℕ → Meant
number_meant n v = if nat_le v 65535 then Ok (kind.Number v) else Err (NumberTooLarge n)

-- the digits behind BIN, OCT or HEX
abbrev pub digits_meant : ℕ → ℕ → List ℕ → Meant
digits_meant n base [] = Err (BadCharacter n)
digits_meant n base (b ∷ bs) = if list_all (is_digit_of base) (b ∷ bs) then number_meant n (number_of base (b ∷ bs)) else Err (BadCharacter n)

abbrev pub character_meant : ℕ → List ℕ → Meant
character_meant n [] = Err (BadCharacter n)
character_meant n (c ∷ bs) = Ok (kind.Number c)

abbrev pub string_meant : Result (List ℕ) TextFault → Meant
string_meant (Ok bytes) = Ok (kind.Text bytes)
string_meant (Err f) = Err f

abbrev pub mark_meant : ℕ → Option Mark → Meant
mark_meant n (Some mark) = Ok (kind.Mark mark)
mark_meant n None = Err (BadCharacter n)

-- by its first byte: a word or a name, a number, a character, a string, or a mark
unfoldable pub text_meant : Lets → ℕ → List ℕ → Meant
text_meant lets n [] = Err (BadCharacter n)
text_meant lets n (b ∷ bs) =
    if is_letter b then name_meant n (map upper (b ∷ bs))
    else (if is_digit b then number_meant n (number_of 10 (b ∷ bs))
    else (if b == 39 then character_meant n bs
    else (if b == 34 then string_meant (string_of lets n bs) else mark_meant n (mark_of (b ∷ bs)))))

-- With these LET names in force the piece means this item, or has this fault.
abbrev pub meaning_by : Lets → ℕ → List ℕ → Option Base → Meant
meaning_by lets n text (Some base) = digits_meant n (radix base) text
meaning_by lets n text None = text_meant lets n text

abbrev pub meaning : Lets → Piece → Meant
meaning lets p = meaning_by lets p.line p.text p.base
