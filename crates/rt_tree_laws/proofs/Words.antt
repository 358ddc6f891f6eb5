-- The word at the front of a text, and what is behind it.
use Rattle.std.proofs.Common.{◌≡◌, ℕ, ◌<◌, ◌≤◌, ◌&&◌, not, Bool, true, false, List, [], ◌∷◌, ◌++◌, decimal, arith, refl, sym, ap, if◌then◌else◌}
use Rattle.std.specs.Prelude.{◌^◌}
use Rattle.std.specs.Str.Parse.{AllDigits, digits_value}
use Rattle.std.proofs.lemmas.Bool.Decides.{nat_tests}
use Rattle.std.proofs.lemmas.Fmt.{digits_decimal}
use Rattle.std.proofs.lemmas.Str.Parse.{IsNumeralModel, digit_from_value}
use Rattle.rt_modes.specs.ModeWords.{is_word_byte, is_word}

abbrev pub word_of : List ℕ → List ℕ
word_of [] = []
word_of (b ∷ bs) = if is_word_byte b then b ∷ word_of bs else []

abbrev pub after_word : List ℕ → List ℕ
after_word [] = []
after_word (b ∷ bs) = if is_word_byte b then after_word bs else b ∷ bs

abbrev pub starts_apart : List ℕ → Bool
starts_apart [] = true
starts_apart (b ∷ bs) = not (is_word_byte b)

not_true : (b : Bool) → not b ≡ true → b ≡ false
not_true true h = sym h
not_true false h = refl

pub left_of : (a b : Bool) → a && b ≡ true → a ≡ true
left_of true b e = refl
left_of false b e = e

pub right_of : (a b : Bool) → a && b ≡ true → b ≡ true
right_of true b e = e
right_of false b e = absurd cc

apart_word : (u : List ℕ) → starts_apart u ≡ true → word_of u ≡ []
apart_word [] h = refl
apart_word (b ∷ bs) h = rw (not_true (is_word_byte b) h) refl

apart_rest : (u : List ℕ) → starts_apart u ≡ true → after_word u ≡ u
apart_rest [] h = refl
apart_rest (b ∷ bs) h = rw (not_true (is_word_byte b) h) refl

pub run_word : (w u : List ℕ) → is_word w ≡ true → starts_apart u ≡ true → word_of (w ++ u) ≡ w
run_word [] u h a = apart_word u a
run_word (b ∷ bs) u h a = rw (left_of (is_word_byte b) (is_word bs) h) (ap (λ z. b ∷ z) (run_word bs u (right_of (is_word_byte b) (is_word bs) h) a))

pub run_rest : (w u : List ℕ) → is_word w ≡ true → starts_apart u ≡ true → after_word (w ++ u) ≡ u
run_rest [] u h a = apart_rest u a
run_rest (b ∷ bs) u h a = rw (left_of (is_word_byte b) (is_word bs) h) (run_rest bs u (right_of (is_word_byte b) (is_word bs) h) a)

-- ---- numbers

digit_byte : (b : ℕ) → 48 ≤ b → b ≤ 57 → is_word_byte b ≡ true
digit_byte b l h = grind (arith, nat_tests)

both_true : (a b : Bool) → a ≡ true → b ≡ true → a && b ≡ true
both_true a b e h = rw (e, h) refl

digits_word : (ds : List ℕ) → AllDigits 10 ds → is_word ds ≡ true
digits_word [] h = refl
digits_word (d ∷ ds) h =
    let v = digit_from_value d h.0 in
    both_true (is_word_byte d) (is_word ds) (digit_byte d (omega (arith, v)) (omega (arith, v))) (digits_word ds h.1)

pub number_word : (n : ℕ) → n < 2 ^ 64 → is_word (decimal n) ≡ true
number_word n h =
    let m : IsNumeralModel (AllDigits 10) (digits_value 10) = record { to = λ ds d. d; from = λ ds d. d; same = λ ds d. refl } in
    digits_word (decimal n) (digits_decimal m n h)
