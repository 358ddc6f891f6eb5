-- What a piece means is well spelled.
use Rattle.std.proofs.Common.{◌≡◌, ◌≢◌, ℕ, ◌-◌, Bool, true, false, List, [], ◌∷◌, length, map, Option, Some, None, Result, Ok, Err, refl, sym, ap, ◌∙◌, arith}
use Rattle.std.specs.Prelude.{nat_le, ◌==◌, if◌then◌else◌, codes}
use Rattle.std.specs.List.{list_all}
use Rattle.std.specs.Str.{bytes_eq}
use Rattle.std.proofs.lemmas.Bool.Decides.{nat_tests}
use Rattle.std.proofs.lemmas.Slice.Eq.{bytes_eq-Decides}
use Rattle.rt_pieces.specs.declared.fault.TextFault.TheVariants.{BadCharacter, LeftOutWord, NumberTooLarge}
use Rattle.rt_pieces.specs.declared.item.ItemKind.TheVariants as kind
use Rattle.rt_pieces.specs.declared.item.Mark.{Mark}
use Rattle.rt_pieces.specs.declared.item.Word.{Word}
use Rattle.rt_pieces.specs.declared.number.Base.{Base}
use Rattle.rt_pieces.specs.declared.fault.TextFault.{TextFault}
use Rattle.rt_pieces.specs.declared.item.Word.TheVariants as w
use Rattle.rt_pieces.specs.Bytes.{is_small, is_letter, is_digit, is_letter_or_digit, is_digit_of, upper, number_of, Each}
use Rattle.rt_pieces.specs.Cutting.{Piece}
use Rattle.rt_pieces.specs.Pieces.{word_of, mark_of, radix}
use Rattle.rt_items.specs.Meaning.{Meant, is_left_out, word_or_name, name_meant, number_meant, digits_meant, character_meant, string_meant, mark_meant, text_meant, meaning_by, meaning}
use Rattle.rt_items.specs.Texts.{Lets, string_of}
use Rattle.rt_items.proofs.Throughout.{MeantSo, items_are_so}
use Rattle.rt_bricks_laws.proofs.AllLists.{both_true}
use Rattle.rt_modes.specs.ModeWords.{Other, is_word, is_word_byte, word}
use Rattle.rt_bricks_laws.specs.Spelled.{KindSpelled, NamesAreWords}
use Rattle.rt_bricks_laws.proofs.SpelledPieces.{GoesOn, PieceGoesOn, pieces_go_on}

-- ---- a name that is no reserved word is none of a mode's words

not_reserved : (s t : List ℕ) (k : Word) → word_of s ≡ None → word_of t ≡ Some k → bytes_eq s t ≡ false
not_reserved s t k none is = by_test (bytes_eq s t) refl where
  by_test : (b : Bool) → bytes_eq s t ≡ b → bytes_eq s t ≡ false
  by_test false e = e
  by_test true e = absurd (let bad = sym none ∙ ap word_of ((bytes_eq-Decides s t).0 e) ∙ is in cc)

other_word : (s : List ℕ) → word_of s ≡ None → word s ≡ Other
unfolding word
other_word s none =
    rw (
      not_reserved s (codes "BYTE") w.Byte none refl,
      not_reserved s (codes "INT") w.Int none refl,
      not_reserved s (codes "FRAC") w.Frac none refl,
      not_reserved s (codes "LABEL") w.Label none refl,
      not_reserved s (codes "REF") w.Ref none refl,
      not_reserved s (codes "ARRAY") w.Array none refl,
      not_reserved s (codes "PROC") w.Proc none refl,
    ) refl

-- ---- letters and digits in upper case

upper_word : (b : ℕ) → is_letter_or_digit b ≡ true → is_word_byte (upper b) ≡ true
upper_word b h = by_test (is_small b) refl where
  by_test : (t : Bool) → is_small b ≡ t → is_word_byte (if t then b - 32 else b) ≡ true
  by_test true e = grind (arith, nat_tests)
  by_test false e = grind (arith, nat_tests)

upper_words : (bs : List ℕ) → Each is_letter_or_digit bs → is_word (map upper bs) ≡ true
upper_words [] h = refl
upper_words (b ∷ bs) h = both_true (is_word_byte (upper b)) (is_word (map upper bs)) (upper_word b h.0) (upper_words bs h.1)

letter_first : (b : ℕ) → is_letter b ≡ true → is_letter_or_digit b ≡ true
letter_first b h = rw h refl

-- ---- what a text means

abbrev Spelled : Meant → Type 0
Spelled m = MeantSo KindSpelled m

if_spelled : (t : Bool) (x y : Meant) → (t ≡ true → Spelled x) → (t ≡ false → Spelled y) → Spelled (if t then x else y)
if_spelled true x y h k = h refl
if_spelled false x y h k = k refl

number_spelled : (n v : ℕ) → Spelled (number_meant n v)
number_spelled n v = if_spelled (nat_le v 65535) (Ok (kind.Number v)) (Err (NumberTooLarge n)) (λ e. tt) (λ e. tt)

word_spelled : (n : ℕ) (name : List ℕ) (o : Option Word) → word_of name ≡ o → is_word name ≡ true → name ≢ [] → Spelled (word_or_name n name o)
word_spelled n name (Some k) e is some = if_spelled (is_left_out k) (Err (LeftOutWord n)) (Ok (kind.Word k)) (λ e. tt) (λ e. tt)
word_spelled n name None e is some = record { is_name = is; other = other_word name e; some = some }

name_spelled : (n : ℕ) (name : List ℕ) → is_word name ≡ true → name ≢ [] → Spelled (name_meant n name)
name_spelled n name is some = if_spelled (nat_le (length name) 32) (word_or_name n name (word_of name)) (Err (BadCharacter n)) (λ e. word_spelled n name (word_of name) refl is some) (λ e. tt)

digits_spelled : (n base : ℕ) (bs : List ℕ) → Spelled (digits_meant n base bs)
digits_spelled n base [] = tt
digits_spelled n base (b ∷ bs) = if_spelled (list_all (is_digit_of base) (b ∷ bs)) (number_meant n (number_of base (b ∷ bs))) (Err (BadCharacter n)) (λ e. number_spelled n (number_of base (b ∷ bs))) (λ e. tt)

character_spelled : (n : ℕ) (bs : List ℕ) → Spelled (character_meant n bs)
character_spelled n [] = tt
character_spelled n (c ∷ bs) = tt

string_spelled : (r : Result (List ℕ) TextFault) → Spelled (string_meant r)
string_spelled (Ok bytes) = tt
string_spelled (Err f) = tt

mark_spelled : (n : ℕ) (m : Option Mark) → Spelled (mark_meant n m)
mark_spelled n (Some m) = tt
mark_spelled n None = tt

some_left : (x : ℕ) (xs : List ℕ) → x ∷ xs ≢ []
some_left x xs e = absurd cc

letters_spelled : (n b : ℕ) (bs : List ℕ) → is_letter b ≡ true → Each is_letter_or_digit bs → Spelled (name_meant n (map upper (b ∷ bs)))
letters_spelled n b bs e h = name_spelled n (map upper (b ∷ bs)) (upper_words (b ∷ bs) (letter_first b e, h)) (some_left (upper b) (map upper bs))

text_spelled : (lets : Lets) (n : ℕ) (bs : List ℕ) → GoesOn bs → Spelled (text_meant lets n bs)
unfolding text_meant
text_spelled lets n [] h = tt
text_spelled lets n (b ∷ bs) h =
    let marked = mark_meant n (mark_of (b ∷ bs)) in
    let quoted = if b == 34 then string_meant (string_of lets n bs) else marked in
    let character = if b == 39 then character_meant n bs else quoted in
    let counted = if is_digit b then number_meant n (number_of 10 (b ∷ bs)) else character in
    if_spelled (is_letter b) (name_meant n (map upper (b ∷ bs))) counted (λ e. letters_spelled n b bs e (h e))
    (λ e. if_spelled (is_digit b) (number_meant n (number_of 10 (b ∷ bs))) character (λ f. number_spelled n (number_of 10 (b ∷ bs)))
    (λ f. if_spelled (b == 39) (character_meant n bs) quoted (λ g. character_spelled n bs)
    (λ g. if_spelled (b == 34) (string_meant (string_of lets n bs)) marked (λ k. string_spelled (string_of lets n bs)) (λ k. mark_spelled n (mark_of (b ∷ bs))))))

by_base : (lets : Lets) (n : ℕ) (bs : List ℕ) (base : Option Base) → GoesOn bs → Spelled (meaning_by lets n bs base)
by_base lets n bs (Some base) h = digits_spelled n (radix base) bs
by_base lets n bs None h = text_spelled lets n bs h

meaning_spelled : (lets : Lets) (p : Piece) → PieceGoesOn p → Spelled (meaning lets p)
meaning_spelled lets p h = by_base lets p.line p.text p.base h

pub names_are_words : NamesAreWords
names_are_words bytes items (ps, e, cut, reads) = items_are_so KindSpelled PieceGoesOn meaning_spelled reads (pieces_go_on cut)
