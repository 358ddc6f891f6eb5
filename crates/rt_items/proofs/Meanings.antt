-- What a piece means is in range.
use Rattle.std.proofs.Common.{◌≡◌, ℕ, ◌+◌, ◌-◌, ◌≤◌, Bool, true, false, ◌&&◌, List, [], ◌∷◌, length, map, drop, suc, take, take_while, Option, Some, None, Ok, Err, refl, subst, arith}
use Rattle.std.specs.Prelude.{nat_le, nat_lt, ◌==◌, if◌then◌else◌}
use Rattle.std.specs.List.{AllByRecursion, list_all, prefix_len}
use Rattle.std.proofs.lemmas.Bool.{leb-true}
use Rattle.rt_pieces.specs.declared.fault.TextFault.{TextFault}
use Rattle.rt_pieces.specs.declared.fault.TextFault.TheVariants.{BadCharacter, BadInsert, LeftOutWord, NumberTooLarge}
use Rattle.rt_pieces.specs.declared.item.ItemKind.{ItemKind}
use Rattle.rt_pieces.specs.declared.item.ItemKind.TheVariants as kind
use Rattle.rt_pieces.specs.declared.item.Mark.{Mark}
use Rattle.rt_pieces.specs.declared.item.Word.{Word}
use Rattle.rt_pieces.specs.declared.number.Base.{Base}
use Rattle.rt_pieces.specs.Bytes.{is_small, is_letter, is_digit, is_digit_of, is_printable, in_string, upper, number_of}
use Rattle.rt_pieces.specs.Cutting.{Piece}
use Rattle.rt_pieces.specs.Pieces.{word_of, mark_of, radix}
use Rattle.rt_items.specs.Meaning.{Meant, is_left_out, word_or_name, name_meant, number_meant, digits_meant, character_meant, string_meant, mark_meant, text_meant, meaning_by, meaning}
use Rattle.rt_items.specs.Texts.{Lets, Given, failing, behind_fault, followed, parts, characters, past_blanks, strange, nothing_more, small, one_number, byte_of, or_bad, in_value, unfinished, value_in, value, values, closing, in_turn, or_fault, string_of}
use Rattle.rt_items.specs.Ranges.{IsByte, KindInRange}
use Rattle.rt_items.proofs.Throughout.{MeantSo, all_append}

abbrev pub MeantInRange : Meant → Type 0
MeantInRange m = MeantSo KindInRange m

-- where a test decides
by_test : (b : Bool) (x y : Meant) → (b ≡ true → MeantInRange x) → (b ≡ false → MeantInRange y) → MeantInRange (if b then x else y)
by_test true x y h k = h refl
by_test false x y h k = k refl

-- ---- the bytes of a string

abbrev Bytes : List ℕ → Type 0
Bytes bs = AllByRecursion IsByte bs

abbrev GivesBytes : Given → Type 0
GivesBytes g = Bytes g.bytes

followed_by : (f : Option TextFault) (bytes : List ℕ) (next : Given) → Bytes bytes → GivesBytes next → GivesBytes (behind_fault f bytes next)
followed_by None bytes next h k = all_append IsByte bytes next.bytes h k
followed_by (Some f) bytes next h k = h

right_of : (a b : Bool) → a && b ≡ true → b ≡ true
right_of true b e = e
right_of false b e = absurd cc

printable_byte : (b : ℕ) → is_printable b ≡ true → IsByte b
printable_byte b h = let e = leb-true b 126 (right_of (nat_le 32 b) (nat_le b 126) h) in omega arith

taken_by : (b : ℕ) (t : Bool) (n : ℕ) (bs : List ℕ) → is_printable b ≡ t → Bytes (take n bs) → Bytes (take (if t then 1 + n else 0) (b ∷ bs))
taken_by b true n bs e h = let more : suc n ≡ 1 + n = omega arith in subst (λ (k : ℕ). Bytes (take k (b ∷ bs))) more (printable_byte b e, h)
taken_by b false n bs e h = tt

taken_bytes : (bs : List ℕ) → Bytes (take_while is_printable bs)
taken_bytes [] = tt
taken_bytes (b ∷ bs) = taken_by b (is_printable b) (prefix_len is_printable bs) bs refl (taken_bytes bs)

characters_bytes : (n : ℕ) (part : List ℕ) → GivesBytes (characters n part)
characters_bytes n part = taken_bytes part

nothing_bytes : (n : ℕ) (bs : List ℕ) → GivesBytes (nothing_more n bs)
nothing_bytes n [] = tt
nothing_bytes n (b ∷ bs) = tt

abbrev SmallByte : Option ℕ → Type 0
SmallByte None = Unit {0}
SmallByte (Some v) = IsByte v

small_by : (v : ℕ) (t : Bool) → nat_le v 255 ≡ t → SmallByte (if t then Some v else None)
small_by v true e = let h = leb-true v 255 e in omega arith
small_by v false e = tt

small_byte : (v : ℕ) → SmallByte (small v)
small_byte v = small_by v (nat_le v 255) refl

one_number_byte : (text : Option (List ItemKind)) → SmallByte (one_number text)
one_number_byte (Some (kind.Number v ∷ [])) = small_byte v
one_number_byte None = tt
one_number_byte (Some _) = tt

small_test : (t : Bool) (x y : Option ℕ) → SmallByte x → SmallByte y → SmallByte (if t then x else y)
small_test true x y h k = h
small_test false x y h k = k

byte_of_byte : (lets : Lets) (run : List ℕ) → SmallByte (byte_of lets run)
byte_of_byte lets run = small_test (list_all is_digit run) (small (number_of 10 run)) (one_number (lets run)) (small_byte (number_of 10 run)) (one_number_byte (lets run))

or_bad_bytes : (n : ℕ) (v : Option ℕ) → SmallByte v → GivesBytes (or_bad n v)
or_bad_bytes n (Some v) h = (h, tt)
or_bad_bytes n None h = tt

gives_test : (t : Bool) (x y : Given) → GivesBytes x → GivesBytes y → GivesBytes (if t then x else y)
gives_test true x y h k = h
gives_test false x y h k = k

value_in_bytes : (lets : Lets) (n : ℕ) (closed : Bool) (bs : List ℕ) → GivesBytes (value_in lets n closed bs)
value_in_bytes lets n closed [] = tt
value_in_bytes lets n closed (b ∷ bs) =
    let run = take_while in_value (b ∷ bs) in
    let first = or_bad n (byte_of lets run) in
    let next = nothing_more n (past_blanks (drop (length run) (b ∷ bs))) in
    gives_test (in_value b) (followed first next) (failing (strange n b))
    (followed_by first.fault first.bytes next (or_bad_bytes n (byte_of lets run) (byte_of_byte lets run)) (nothing_bytes n (past_blanks (drop (length run) (b ∷ bs))))) tt

values_bytes : (lets : Lets) (n : ℕ) (closed : Bool) (fields : List (List ℕ)) → GivesBytes (values lets n closed fields)
unfolding values
values_bytes lets n closed [] = tt
values_bytes lets n closed (field ∷ []) = value_in_bytes lets n closed (past_blanks field)
values_bytes lets n closed (field ∷ next ∷ fields) =
    followed_by (value lets n true field).fault (value lets n true field).bytes (values lets n closed (next ∷ fields)) (value_in_bytes lets n true (past_blanks field)) (values_bytes lets n closed (next ∷ fields))

closing_bytes : (n : ℕ) (closed : Bool) → GivesBytes (closing n closed)
closing_bytes n true = tt
closing_bytes n false = tt

in_turn_bytes : (lets : Lets) (n : ℕ) (closed : Bool) (ps : List (List ℕ)) → GivesBytes (in_turn lets n closed ps)
unfolding in_turn
in_turn_bytes lets n closed [] = tt
in_turn_bytes lets n closed (outside ∷ []) = followed_by (characters n outside).fault (characters n outside).bytes (closing n closed) (characters_bytes n outside) (closing_bytes n closed)
in_turn_bytes lets n closed (outside ∷ inside ∷ []) =
    let inner = values lets n closed (parts 44 inside) in
    let last = failing (unfinished n closed) in
    followed_by (characters n outside).fault (characters n outside).bytes (followed inner last) (characters_bytes n outside) (followed_by inner.fault inner.bytes last (values_bytes lets n closed (parts 44 inside)) tt)
in_turn_bytes lets n closed (outside ∷ inside ∷ next ∷ rest) =
    let inner = values lets n true (parts 44 inside) in
    let last = in_turn lets n closed (next ∷ rest) in
    followed_by (characters n outside).fault (characters n outside).bytes (followed inner last) (characters_bytes n outside) (followed_by inner.fault inner.bytes last (values_bytes lets n true (parts 44 inside)) (in_turn_bytes lets n closed (next ∷ rest)))

or_fault_in_range : (bytes : List ℕ) (f : Option TextFault) → length bytes ≤ 8191 → Bytes bytes → MeantInRange (string_meant (or_fault bytes f))
or_fault_in_range bytes None few h = (few, h)
or_fault_in_range bytes (Some f) few h = tt

limited_by : (n : ℕ) (g : Given) (t : Bool) → nat_le (length g.bytes) 8191 ≡ t → GivesBytes g → MeantInRange (string_meant (if t then or_fault g.bytes g.fault else Err (BadInsert n)))
limited_by n g true e h = or_fault_in_range g.bytes g.fault (leb-true (length g.bytes) 8191 e) h
limited_by n g false e h = tt

string_in_range : (lets : Lets) (n : ℕ) (bs : List ℕ) → MeantInRange (string_meant (string_of lets n bs))
string_in_range lets n bs =
    let body = take_while in_string bs in
    let g = in_turn lets n (nat_lt (length body) (length bs)) (parts 35 body) in
    limited_by n g (nat_le (length g.bytes) 8191) refl (in_turn_bytes lets n (nat_lt (length body) (length bs)) (parts 35 body))

-- ---- the other items

number_by : (n v : ℕ) (t : Bool) → nat_le v 65535 ≡ t → MeantInRange (if t then Ok (kind.Number v) else Err (NumberTooLarge n))
number_by n v true e = let h = leb-true v 65535 e in omega arith
number_by n v false e = tt

number_in_range : (n v : ℕ) → MeantInRange (number_meant n v)
number_in_range n v = number_by n v (nat_le v 65535) refl

word_in_range : (n : ℕ) (name : List ℕ) (w : Option Word) → length name ≤ 32 → Bytes name → MeantInRange (word_or_name n name w)
word_in_range n name (Some w) few h = by_test (is_left_out w) (Err (LeftOutWord n)) (Ok (kind.Word w)) (λ e. tt) (λ e. tt)
word_in_range n name None few h = (few, h)

name_in_range : (n : ℕ) (name : List ℕ) → Bytes name → MeantInRange (name_meant n name)
name_in_range n name h =
    by_test (nat_le (length name) 32) (word_or_name n name (word_of name)) (Err (BadCharacter n)) (λ e. word_in_range n name (word_of name) (leb-true (length name) 32 e) h) (λ e. tt)

upper_by : (b : ℕ) (t : Bool) → IsByte b → IsByte (if t then b - 32 else b)
upper_by b true h = omega arith
upper_by b false h = h

upper_bytes : (bs : List ℕ) → Bytes bs → Bytes (map upper bs)
upper_bytes [] h = tt
upper_bytes (b ∷ bs) h = (upper_by b (is_small b) h.0, upper_bytes bs h.1)

digits_in_range : (n base : ℕ) (bs : List ℕ) → MeantInRange (digits_meant n base bs)
digits_in_range n base [] = tt
digits_in_range n base (b ∷ bs) = by_test (list_all (is_digit_of base) (b ∷ bs)) (number_meant n (number_of base (b ∷ bs))) (Err (BadCharacter n)) (λ e. number_in_range n (number_of base (b ∷ bs))) (λ e. tt)

character_in_range : (n : ℕ) (bs : List ℕ) → Bytes bs → MeantInRange (character_meant n bs)
character_in_range n [] h = tt
character_in_range n (c ∷ bs) h = let e = h.0 in omega arith

mark_in_range : (n : ℕ) (m : Option Mark) → MeantInRange (mark_meant n m)
mark_in_range n (Some m) = tt
mark_in_range n None = tt

text_in_range : (lets : Lets) (n : ℕ) (bs : List ℕ) → Bytes bs → MeantInRange (text_meant lets n bs)
unfolding text_meant
text_in_range lets n [] h = tt
text_in_range lets n (b ∷ bs) h =
    let marked = mark_meant n (mark_of (b ∷ bs)) in
    let quoted = if b == 34 then string_meant (string_of lets n bs) else marked in
    let character = if b == 39 then character_meant n bs else quoted in
    let counted = if is_digit b then number_meant n (number_of 10 (b ∷ bs)) else character in
    by_test (is_letter b) (name_meant n (map upper (b ∷ bs))) counted (λ e. name_in_range n (map upper (b ∷ bs)) (upper_bytes (b ∷ bs) h))
    (λ e. by_test (is_digit b) (number_meant n (number_of 10 (b ∷ bs))) character (λ f. number_in_range n (number_of 10 (b ∷ bs)))
    (λ f. by_test (b == 39) (character_meant n bs) quoted (λ g. character_in_range n bs h.1)
    (λ g. by_test (b == 34) (string_meant (string_of lets n bs)) marked (λ k. string_in_range lets n bs) (λ k. mark_in_range n (mark_of (b ∷ bs))))))

by_base : (lets : Lets) (n : ℕ) (bs : List ℕ) (base : Option Base) → Bytes bs → MeantInRange (meaning_by lets n bs base)
by_base lets n bs (Some base) h = digits_in_range n (radix base) bs
by_base lets n bs None h = text_in_range lets n bs h

-- what a piece of bytes means
pub meaning_in_range : (lets : Lets) (p : Piece) → AllByRecursion IsByte p.text → MeantInRange (meaning lets p)
meaning_in_range lets p h = by_base lets p.line p.text p.base h
