-- What the pieces of a text are that begin with a letter.
use Rattle.std.proofs.Common.{◌≡◌, ℕ, Bool, true, false, List, [], ◌∷◌, ◌++◌, Option, None, inl, inr, refl, sym, ap, ◌∙◌, subst, arith}
use Rattle.std.specs.Prelude.{◌==◌, IsSome}
use Rattle.std.specs.List.{AllByRecursion}
use Rattle.std.proofs.lemmas.Bool.Decides.{nat_tests}
use Rattle.rt_pieces.specs.declared.number.Opened.{Opened}
use Rattle.rt_pieces.specs.Bytes.{is_letter, is_letter_or_digit, is_digit, Each}
use Rattle.rt_pieces.specs.Cutting.{Piece, End, Cut, finish, blank, comment, open_comment, base, digits, piece, bad}
use Rattle.rt_pieces.specs.Pieces.{mark_of, mark_of_two, mark_of_three, IsName, IsNumber, IsString, IsPiece}

-- what begins with a letter goes on with letters and digits
abbrev pub GoesOn : List ℕ → Type 0
GoesOn [] = Unit {0}
GoesOn (b ∷ bs) = is_letter b ≡ true → Each is_letter_or_digit bs

-- what begins with a byte that is no letter does so
no_letter : (b : ℕ) (bs text : List ℕ) → is_letter b ≡ false → text ≡ b ∷ bs → GoesOn text
no_letter b bs text h e = subst GoesOn (sym e) (λ k. absurd (let bad = sym h ∙ k in cc))

digit_no_letter : (b : ℕ) → is_digit b ≡ true → is_letter b ≡ false
digit_no_letter b h = grind (arith, nat_tests)

equal : (a b : ℕ) → (a == b) ≡ true → a ≡ b
equal a b h = grind (arith, nat_tests)

-- a mark of several bytes begins with : < or >
two_no_letter : (a b : ℕ) → IsSome (mark_of_two a b) → is_letter a ≡ false
two_no_letter a b h = by_tests (a == 58) (a == 60) (a == 62) refl refl refl h where
  by_tests : (s t u : Bool) → (a == 58) ≡ s → (a == 60) ≡ t → (a == 62) ≡ u → IsSome (mark_of_two a b) → is_letter a ≡ false
  by_tests true t u e f g h = ap is_letter (equal a 58 e)
  by_tests false true u e f g h = ap is_letter (equal a 60 f)
  by_tests false false true e f g h = ap is_letter (equal a 62 g)
  by_tests false false false e f g h = absurd (let none : mark_of_two a b ≡ None = rw (e, f, g) refl in let bad = subst IsSome none h in cc)

three_no_letter : (a b c : ℕ) → IsSome (mark_of_three a b c) → is_letter a ≡ false
three_no_letter a b c h = by_test (a == 58) refl h where
  by_test : (t : Bool) → (a == 58) ≡ t → IsSome (mark_of_three a b c) → is_letter a ≡ false
  by_test true e h = ap is_letter (equal a 58 e)
  by_test false e h = absurd (let none : mark_of_three a b c ≡ None = rw e refl in let bad = subst IsSome none h in cc)

mark_goes : (text : List ℕ) → IsSome (mark_of text) → GoesOn text
mark_goes [] h = tt
mark_goes (a ∷ []) h = λ k. tt
mark_goes (a ∷ b ∷ []) h = no_letter a (b ∷ []) (a ∷ b ∷ []) (two_no_letter a b h) refl
mark_goes (a ∷ b ∷ c ∷ []) h = no_letter a (b ∷ c ∷ []) (a ∷ b ∷ c ∷ []) (three_no_letter a b c h) refl
mark_goes (a ∷ b ∷ c ∷ d ∷ more) h = absurd cc

name_goes : (text rest : List ℕ) → IsName text rest → GoesOn text
name_goes [] rest h = tt
name_goes (b ∷ bs) rest h = λ k. h.1

number_goes : (text rest : List ℕ) → IsNumber text rest → GoesOn text
number_goes [] rest h = tt
number_goes (b ∷ bs) rest h = no_letter b bs (b ∷ bs) (digit_no_letter b h.0) refl

string_goes : (text rest : List ℕ) → IsString text rest → GoesOn text
string_goes text rest (body, each, inl same) = no_letter 34 (body ++ 34 ∷ []) text refl same
string_goes text rest (body, each, inr (same, ends)) = no_letter 34 body text refl same

piece_goes : (text rest : List ℕ) → IsPiece text rest → GoesOn text
piece_goes text rest (inl name) = name_goes text rest name
piece_goes text rest (inr (inl number)) = number_goes text rest number
piece_goes text rest (inr (inr (inl (c, same, shows)))) = no_letter 39 (c ∷ 39 ∷ []) text refl same
piece_goes text rest (inr (inr (inr (inl string)))) = string_goes text rest string
piece_goes text rest (inr (inr (inr (inr mark)))) = mark_goes text mark.0

run_goes : (run : List ℕ) → Each is_letter_or_digit run → GoesOn run
run_goes [] h = tt
run_goes (b ∷ bs) h = λ k. h.1

abbrev pub PieceGoesOn : Piece → Type 0
PieceGoesOn p = GoesOn p.text

pub pieces_go_on : {total : ℕ} {o : Option Opened} {n : ℕ} {bytes : List ℕ} {ps : List Piece} {e : End} → Cut total o n bytes ps e → AllByRecursion PieceGoesOn ps
pieces_go_on finish = tt
pieces_go_on (blank is more) = pieces_go_on more
pieces_go_on (comment body same each more) = pieces_go_on more
pieces_go_on (open_comment each) = tt
pieces_go_on (base text same is names more) = pieces_go_on more
pieces_go_on (digits run same gap each ends more) = (run_goes run each, pieces_go_on more)
pieces_go_on (piece text {rest = rest} same is none more) = (piece_goes text rest is, pieces_go_on more)
pieces_go_on (bad not_blank not_comment none) = tt
