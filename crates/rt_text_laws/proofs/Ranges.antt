-- Each item of a text is in range, whatever numbers the text has for bytes: what is shown in a string or between quotation marks is
-- printable, and names are words.
use Rattle.std.proofs.Common.{◌≡◌, inl, inr, ℕ, ◌+◌, ◌<◌, ◌≤◌, Bool, true, false, ◌&&◌, List, [], ◌∷◌, ◌++◌, length, map, drop, suc, take, take_while, Option, Some, None, Ok, Err, refl, sym, ap, ◌∙◌, subst, arith}
use Rattle.std.specs.Prelude.{nat_le, nat_lt, ◌==◌, if◌then◌else◌, IsSome}
use Rattle.std.specs.List.{AllByRecursion, list_all, prefix_len}
use Rattle.std.proofs.lemmas.Bool.{leb-true}
use Rattle.std.proofs.lemmas.Bool.Decides.{nat_tests}
use Rattle.rt_pieces.specs.declared.fault.TextFault.{TextFault}
use Rattle.rt_pieces.specs.declared.fault.TextFault.TheVariants.{BadCharacter, BadInsert, LeftOutWord, NumberTooLarge}
use Rattle.rt_pieces.specs.declared.item.ItemKind.{ItemKind}
use Rattle.rt_pieces.specs.declared.item.ItemKind.TheVariants as kind
use Rattle.rt_pieces.specs.declared.item.Mark.{Mark}
use Rattle.rt_pieces.specs.declared.item.Word.{Word}
use Rattle.rt_pieces.specs.declared.number.Base.{Base}
use Rattle.rt_pieces.specs.Bytes.{is_letter, is_letter_or_digit, is_digit, is_digit_of, is_printable, in_string, upper, number_of, Each}
use Rattle.rt_pieces.specs.Cutting.{Piece, End, Cut, finish, blank, comment, open_comment, base, digits, piece, bad}
use Rattle.rt_pieces.specs.Pieces.{word_of, mark_of, mark_of_two, mark_of_three, radix, IsName, IsNumber, IsString, IsPiece}
use Rattle.rt_items.specs.Meaning.{Meant, is_left_out, word_or_name, name_meant, number_meant, digits_meant, character_meant, string_meant, mark_meant, text_meant, meaning_by, meaning}
use Rattle.rt_items.specs.Texts.{Lets, Given, failing, behind_fault, followed, parts, characters, past_blanks, strange, nothing_more, small, one_number, byte_of, or_bad, in_value, unfinished, value_in, value, values, closing, in_turn, or_fault, string_of}
use Rattle.rt_items.specs.Ranges.{IsByte, KindInRange, InRange}
use Rattle.rt_items.proofs.Throughout.{MeantSo, all_append, items_are_so}
use Rattle.rt_pieces.specs.declared.item.Item.{Item}
use Rattle.rt_pieces.specs.declared.number.Opened.{Opened}
use Rattle.rt_text_laws.specs.Trees.{ItemsAreRanged}
use Rattle.rt_modes.specs.ModeWords.{is_word, is_word_byte}
use Rattle.rt_bricks_laws.proofs.AllLists.{left_of}
use Rattle.rt_bricks_laws.specs.Spelled.{KindSpelled, IsSpelled, NamesAreWords}

-- a name has at most 32 bytes, and other items are in range
abbrev KindLow : ItemKind → Type 0
KindLow (kind.Name s) = length s ≤ 32
KindLow (kind.Number n) = n < 65536
KindLow (kind.Text s) = (length s ≤ 8191) × AllByRecursion IsByte s
KindLow _ = Unit {0}

abbrev MeantLow : Meant → Type 0
MeantLow m = MeantSo KindLow m

-- where a test decides
by_test : (b : Bool) (x y : Meant) → (b ≡ true → MeantLow x) → (b ≡ false → MeantLow y) → MeantLow (if b then x else y)
by_test true x y h k = h refl
by_test false x y h k = k refl

-- ---- the bytes of a string

abbrev Bytes : List ℕ → Type 0
Bytes bs = AllByRecursion IsByte bs

abbrev GivesBytes : Given → Type 0
GivesBytes g = Bytes g.bytes

followed_by : (f : Option TextFault) (bytes : List ℕ) (next : Given) → Bytes bytes → GivesBytes next → GivesBytes (behind_fault f bytes next)
followed_by None bytes next h k = all_append IsByte bytes next.bytes h k
followed_by (Some f) bytes next h k = h

right_of : (a b : Bool) → a && b ≡ true → b ≡ true
right_of true b e = e
right_of false b e = absurd cc

printable_byte : (b : ℕ) → is_printable b ≡ true → IsByte b
printable_byte b h = let e = leb-true b 126 (right_of (nat_le 32 b) (nat_le b 126) h) in omega arith

taken_by : (b : ℕ) (t : Bool) (n : ℕ) (bs : List ℕ) → is_printable b ≡ t → Bytes (take n bs) → Bytes (take (if t then 1 + n else 0) (b ∷ bs))
taken_by b true n bs e h = let more : suc n ≡ 1 + n = omega arith in subst (λ (k : ℕ). Bytes (take k (b ∷ bs))) more (printable_byte b e, h)
taken_by b false n bs e h = tt

taken_bytes : (bs : List ℕ) → Bytes (take_while is_printable bs)
taken_bytes [] = tt
taken_bytes (b ∷ bs) = taken_by b (is_printable b) (prefix_len is_printable bs) bs refl (taken_bytes bs)

characters_bytes : (n : ℕ) (part : List ℕ) → GivesBytes (characters n part)
characters_bytes n part = taken_bytes part

nothing_bytes : (n : ℕ) (bs : List ℕ) → GivesBytes (nothing_more n bs)
nothing_bytes n [] = tt
nothing_bytes n (b ∷ bs) = tt

abbrev SmallByte : Option ℕ → Type 0
SmallByte None = Unit {0}
SmallByte (Some v) = IsByte v

small_by : (v : ℕ) (t : Bool) → nat_le v 255 ≡ t → SmallByte (if t then Some v else None)
small_by v true e = let h = leb-true v 255 e in omega arith
small_by v false e = tt

small_byte : (v : ℕ) → SmallByte (small v)
small_byte v = small_by v (nat_le v 255) refl

one_number_byte : (text : Option (List ItemKind)) → SmallByte (one_number text)
one_number_byte (Some (kind.Number v ∷ [])) = small_byte v
one_number_byte None = tt
one_number_byte (Some _) = tt

small_test : (t : Bool) (x y : Option ℕ) → SmallByte x → SmallByte y → SmallByte (if t then x else y)
small_test true x y h k = h
small_test false x y h k = k

byte_of_byte : (lets : Lets) (run : List ℕ) → SmallByte (byte_of lets run)
byte_of_byte lets run = small_test (list_all is_digit run) (small (number_of 10 run)) (one_number (lets run)) (small_byte (number_of 10 run)) (one_number_byte (lets run))

or_bad_bytes : (n : ℕ) (v : Option ℕ) → SmallByte v → GivesBytes (or_bad n v)
or_bad_bytes n (Some v) h = (h, tt)
or_bad_bytes n None h = tt

gives_test : (t : Bool) (x y : Given) → GivesBytes x → GivesBytes y → GivesBytes (if t then x else y)
gives_test true x y h k = h
gives_test false x y h k = k

value_in_bytes : (lets : Lets) (n : ℕ) (closed : Bool) (bs : List ℕ) → GivesBytes (value_in lets n closed bs)
value_in_bytes lets n closed [] = tt
value_in_bytes lets n closed (b ∷ bs) =
    let run = take_while in_value (b ∷ bs) in
    let first = or_bad n (byte_of lets run) in
    let next = nothing_more n (past_blanks (drop (length run) (b ∷ bs))) in
    gives_test (in_value b) (followed first next) (failing (strange n b))
    (followed_by first.fault first.bytes next (or_bad_bytes n (byte_of lets run) (byte_of_byte lets run)) (nothing_bytes n (past_blanks (drop (length run) (b ∷ bs))))) tt

values_bytes : (lets : Lets) (n : ℕ) (closed : Bool) (fields : List (List ℕ)) → GivesBytes (values lets n closed fields)
unfolding values
values_bytes lets n closed [] = tt
values_bytes lets n closed (field ∷ []) = value_in_bytes lets n closed (past_blanks field)
values_bytes lets n closed (field ∷ next ∷ fields) =
    followed_by (value lets n true field).fault (value lets n true field).bytes (values lets n closed (next ∷ fields)) (value_in_bytes lets n true (past_blanks field)) (values_bytes lets n closed (next ∷ fields))

closing_bytes : (n : ℕ) (closed : Bool) → GivesBytes (closing n closed)
closing_bytes n true = tt
closing_bytes n false = tt

in_turn_bytes : (lets : Lets) (n : ℕ) (closed : Bool) (ps : List (List ℕ)) → GivesBytes (in_turn lets n closed ps)
unfolding in_turn
in_turn_bytes lets n closed [] = tt
in_turn_bytes lets n closed (outside ∷ []) = followed_by (characters n outside).fault (characters n outside).bytes (closing n closed) (characters_bytes n outside) (closing_bytes n closed)
in_turn_bytes lets n closed (outside ∷ inside ∷ []) =
    let inner = values lets n closed (parts 44 inside) in
    let last = failing (unfinished n closed) in
    followed_by (characters n outside).fault (characters n outside).bytes (followed inner last) (characters_bytes n outside) (followed_by inner.fault inner.bytes last (values_bytes lets n closed (parts 44 inside)) tt)
in_turn_bytes lets n closed (outside ∷ inside ∷ next ∷ rest) =
    let inner = values lets n true (parts 44 inside) in
    let last = in_turn lets n closed (next ∷ rest) in
    followed_by (characters n outside).fault (characters n outside).bytes (followed inner last) (characters_bytes n outside) (followed_by inner.fault inner.bytes last (values_bytes lets n true (parts 44 inside)) (in_turn_bytes lets n closed (next ∷ rest)))

or_fault_in_range : (bytes : List ℕ) (f : Option TextFault) → length bytes ≤ 8191 → Bytes bytes → MeantLow (string_meant (or_fault bytes f))
or_fault_in_range bytes None few h = (few, h)
or_fault_in_range bytes (Some f) few h = tt

limited_by : (n : ℕ) (g : Given) (t : Bool) → nat_le (length g.bytes) 8191 ≡ t → GivesBytes g → MeantLow (string_meant (if t then or_fault g.bytes g.fault else Err (BadInsert n)))
limited_by n g true e h = or_fault_in_range g.bytes g.fault (leb-true (length g.bytes) 8191 e) h
limited_by n g false e h = tt

string_in_range : (lets : Lets) (n : ℕ) (bs : List ℕ) → MeantLow (string_meant (string_of lets n bs))
string_in_range lets n bs =
    let body = take_while in_string bs in
    let g = in_turn lets n (nat_lt (length body) (length bs)) (parts 35 body) in
    limited_by n g (nat_le (length g.bytes) 8191) refl (in_turn_bytes lets n (nat_lt (length body) (length bs)) (parts 35 body))

-- ---- the other items

number_by : (n v : ℕ) (t : Bool) → nat_le v 65535 ≡ t → MeantLow (if t then Ok (kind.Number v) else Err (NumberTooLarge n))
number_by n v true e = let h = leb-true v 65535 e in omega arith
number_by n v false e = tt

number_low : (n v : ℕ) → MeantLow (number_meant n v)
number_low n v = number_by n v (nat_le v 65535) refl

word_low : (n : ℕ) (name : List ℕ) (w : Option Word) → length name ≤ 32 → MeantLow (word_or_name n name w)
word_low n name (Some w) few = by_test (is_left_out w) (Err (LeftOutWord n)) (Ok (kind.Word w)) (λ e. tt) (λ e. tt)
word_low n name None few = few

name_low : (n : ℕ) (name : List ℕ) → MeantLow (name_meant n name)
name_low n name = by_test (nat_le (length name) 32) (word_or_name n name (word_of name)) (Err (BadCharacter n)) (λ e. word_low n name (word_of name) (leb-true (length name) 32 e)) (λ e. tt)

digits_low : (n r : ℕ) (bs : List ℕ) → MeantLow (digits_meant n r bs)
digits_low n r [] = tt
digits_low n r (b ∷ bs) = by_test (list_all (is_digit_of r) (b ∷ bs)) (number_meant n (number_of r (b ∷ bs))) (Err (BadCharacter n)) (λ e. number_low n (number_of r (b ∷ bs))) (λ e. tt)

mark_low : (n : ℕ) (m : Option Mark) → MeantLow (mark_meant n m)
mark_low n (Some m) = tt
mark_low n None = tt

-- a character behind a quotation mark is low
abbrev ShowsLow : List ℕ → Type 0
ShowsLow (b ∷ c ∷ bs) = (b == 39) ≡ true → c < 65536
ShowsLow _ = Unit {0}

character_low : (n b : ℕ) (bs : List ℕ) → (b == 39) ≡ true → ShowsLow (b ∷ bs) → MeantLow (character_meant n bs)
character_low n b [] e h = tt
character_low n b (c ∷ bs) e h = h e

text_low : (lets : Lets) (n : ℕ) (bs : List ℕ) → ShowsLow bs → MeantLow (text_meant lets n bs)
unfolding text_meant
text_low lets n [] h = tt
text_low lets n (b ∷ bs) h =
    let marked = mark_meant n (mark_of (b ∷ bs)) in
    let quoted = if b == 34 then string_meant (string_of lets n bs) else marked in
    let character = if b == 39 then character_meant n bs else quoted in
    let counted = if is_digit b then number_meant n (number_of 10 (b ∷ bs)) else character in
    by_test (is_letter b) (name_meant n (map upper (b ∷ bs))) counted (λ e. name_low n (map upper (b ∷ bs)))
    (λ e. by_test (is_digit b) (number_meant n (number_of 10 (b ∷ bs))) character (λ f. number_low n (number_of 10 (b ∷ bs)))
    (λ f. by_test (b == 39) (character_meant n bs) quoted (λ g. character_low n b bs g h)
    (λ g. by_test (b == 34) (string_meant (string_of lets n bs)) marked (λ k. string_in_range lets n bs) (λ k. mark_low n (mark_of (b ∷ bs))))))

by_base : (lets : Lets) (n : ℕ) (bs : List ℕ) (of : Option Base) → ShowsLow bs → MeantLow (meaning_by lets n bs of)
by_base lets n bs (Some r) h = digits_low n (radix r) bs
by_base lets n bs None h = text_low lets n bs h

abbrev PieceLow : Piece → Type 0
PieceLow p = ShowsLow p.text

meaning_low : (lets : Lets) (p : Piece) → PieceLow p → MeantLow (meaning lets p)
meaning_low lets p h = by_base lets p.line p.text p.base h

-- ---- pieces

-- what begins with another byte shows nothing
no_quote : (b : ℕ) (bs text : List ℕ) → (b == 39) ≡ false → text ≡ b ∷ bs → ShowsLow text
no_quote b [] text h e = subst ShowsLow (sym e) tt
no_quote b (c ∷ bs) text h e = subst ShowsLow (sym e) (λ k. absurd (let bad = sym h ∙ k in cc))

letter_or_digit : (b : ℕ) → is_letter_or_digit b ≡ true → (b == 39) ≡ false
letter_or_digit b h = grind (arith, nat_tests)

letter : (b : ℕ) → is_letter b ≡ true → (b == 39) ≡ false
letter b h = grind (arith, nat_tests)

digit : (b : ℕ) → is_digit b ≡ true → (b == 39) ≡ false
digit b h = grind (arith, nat_tests)

equal : (a b : ℕ) → (a == b) ≡ true → a ≡ b
equal a b h = grind (arith, nat_tests)

-- a mark of several bytes begins with : < or >
two_marks : (a b : ℕ) → IsSome (mark_of_two a b) → (a == 39) ≡ false
two_marks a b h = by_tests (a == 58) (a == 60) (a == 62) refl refl refl h where
  by_tests : (s t u : Bool) → (a == 58) ≡ s → (a == 60) ≡ t → (a == 62) ≡ u → IsSome (mark_of_two a b) → (a == 39) ≡ false
  by_tests true t u e f g h = ap (λ (x : ℕ). x == 39) (equal a 58 e)
  by_tests false true u e f g h = ap (λ (x : ℕ). x == 39) (equal a 60 f)
  by_tests false false true e f g h = ap (λ (x : ℕ). x == 39) (equal a 62 g)
  by_tests false false false e f g h = absurd (let none : mark_of_two a b ≡ None = rw (e, f, g) refl in let bad = subst IsSome none h in cc)

three_marks : (a b c : ℕ) → IsSome (mark_of_three a b c) → (a == 39) ≡ false
three_marks a b c h = by_first (a == 58) refl h where
  by_first : (t : Bool) → (a == 58) ≡ t → IsSome (mark_of_three a b c) → (a == 39) ≡ false
  by_first true e h = ap (λ (x : ℕ). x == 39) (equal a 58 e)
  by_first false e h = absurd (let none : mark_of_three a b c ≡ None = rw e refl in let bad = subst IsSome none h in cc)

mark_shows : (text : List ℕ) → IsSome (mark_of text) → ShowsLow text
mark_shows [] h = tt
mark_shows (a ∷ []) h = tt
mark_shows (a ∷ b ∷ []) h = no_quote a (b ∷ []) (a ∷ b ∷ []) (two_marks a b h) refl
mark_shows (a ∷ b ∷ c ∷ []) h = no_quote a (b ∷ c ∷ []) (a ∷ b ∷ c ∷ []) (three_marks a b c h) refl
mark_shows (a ∷ b ∷ c ∷ d ∷ more) h = absurd cc

name_shows : (text rest : List ℕ) → IsName text rest → ShowsLow text
name_shows [] rest h = tt
name_shows (b ∷ bs) rest h = no_quote b bs (b ∷ bs) (letter b h.0) refl

number_shows : (text rest : List ℕ) → IsNumber text rest → ShowsLow text
number_shows [] rest h = tt
number_shows (b ∷ bs) rest h = no_quote b bs (b ∷ bs) (digit b h.0) refl

printable_low : (c : ℕ) → is_printable c ≡ true → c < 65536
printable_low c h = let e = leb-true c 126 (right_of (nat_le 32 c) (nat_le c 126) h) in omega arith

string_shows : (text rest : List ℕ) → IsString text rest → ShowsLow text
string_shows text rest (body, each, inl same) = no_quote 34 (body ++ 34 ∷ []) text refl same
string_shows text rest (body, each, inr (same, ends)) = no_quote 34 body text refl same

piece_shows : (text rest : List ℕ) → IsPiece text rest → ShowsLow text
piece_shows text rest (inl name) = name_shows text rest name
piece_shows text rest (inr (inl number)) = number_shows text rest number
piece_shows text rest (inr (inr (inl (c, same, shows)))) = subst ShowsLow (sym same) (λ k. printable_low c shows)
piece_shows text rest (inr (inr (inr (inl string)))) = string_shows text rest string
piece_shows text rest (inr (inr (inr (inr mark)))) = mark_shows text mark.0

run_shows : (run : List ℕ) → Each is_letter_or_digit run → ShowsLow run
run_shows [] h = tt
run_shows (b ∷ bs) h = no_quote b bs (b ∷ bs) (letter_or_digit b h.0) refl

pieces_show : {total : ℕ} {o : Option Opened} {n : ℕ} {bytes : List ℕ} {ps : List Piece} {e : End} → Cut total o n bytes ps e → AllByRecursion PieceLow ps
pieces_show finish = tt
pieces_show (blank is more) = pieces_show more
pieces_show (comment body same each more) = pieces_show more
pieces_show (open_comment each) = tt
pieces_show (base text same is names more) = pieces_show more
pieces_show (digits run same gap each ends more) = (run_shows run each, pieces_show more)
pieces_show (piece text {rest = rest} same is none more) = (piece_shows text rest is, pieces_show more)
pieces_show (bad not_blank not_comment none) = tt

-- ---- items

word_byte : (b : ℕ) → is_word_byte b ≡ true → IsByte b
word_byte b h = grind (arith, nat_tests)

word_bytes : (s : List ℕ) → is_word s ≡ true → Bytes s
word_bytes [] h = tt
word_bytes (b ∷ bs) h = (word_byte b (left_of (is_word_byte b) (is_word bs) h), word_bytes bs (right_of (is_word_byte b) (is_word bs) h))

kind_in_range : (k : ItemKind) → KindSpelled k → KindLow k → KindInRange k
kind_in_range (kind.Name s) h l = (l, word_bytes s h.is_name)
kind_in_range (kind.Word w) h l = tt
kind_in_range (kind.Number n) h l = l
kind_in_range (kind.Text s) h l = l
kind_in_range (kind.Mark m) h l = tt

all_in_range : (items : List Item) → AllByRecursion IsSpelled items → AllByRecursion (λ (i : Item). KindLow i.kind) items → AllByRecursion InRange items
all_in_range [] h l = tt
all_in_range (i ∷ items) h l = (kind_in_range i.kind h.0 l.0, all_in_range items h.1 l.1)

pub items_are_ranged : NamesAreWords → ItemsAreRanged
items_are_ranged words bytes items (ps, e, cut, reads) = all_in_range items (words bytes items (ps, e, cut, reads)) (items_are_so KindLow PieceLow meaning_low reads (pieces_show cut))
