-- What the words and their operators are to the numbers for which they stand.
use Rattle.std.specs.Prelude.{◌≡◌, ℕ, ◌/◌, ◌%◌, ◌<◌, ℤ, pos, negsuc, ◌+ℤ◌, ◌*ℤ◌, ◌≤ℤ◌, int_lt, unsigned_abs}
use Rattle.rt_words.specs.Word.{wrap_add, signed_of, word_of, joined}
use Rattle.rt_words.specs.Operators.{sdiv}
use Rattle.rt_words.specs.declared.kinds.Quotient.TheVariants as quotient

-- a number that a word can stand for
pub record IsSignedWord (z : ℤ) : Type 0 where
  pub least : negsuc 32767 ≤ℤ z
  pub most : z ≤ℤ pos 32767

-- each word stands for one number, and each number in range is that of its word
abbrev pub WordBack : Type 0
WordBack = (a : ℕ) → a < 65536 → word_of (signed_of a) ≡ a

abbrev pub SignedBack : Type 0
SignedBack = (z : ℤ) → IsSignedWord z → signed_of (word_of z) ≡ z

abbrev pub SignedRange : Type 0
SignedRange = (a : ℕ) → a < 65536 → IsSignedWord (signed_of a)

-- sums, differences and products are those of the numbers, cut to 16 bits
abbrev pub WrapsAs : (ℕ → ℕ → ℕ) → (ℤ → ℤ → ℤ) → Type 0
WrapsAs on_words on_numbers =
    (a b : ℕ) → a < 65536 → b < 65536 → on_words a b ≡ word_of (on_numbers (signed_of a) (signed_of b))

-- and so they are those of the numbers where a word can stand for these
abbrev pub ExactIn : (ℕ → ℕ → ℕ) → (ℤ → ℤ → ℤ) → Type 0
ExactIn on_words on_numbers =
    (a b : ℕ) → a < 65536 → b < 65536 → IsSignedWord (on_numbers (signed_of a) (signed_of b)) →
    signed_of (on_words a b) ≡ on_numbers (signed_of a) (signed_of b)

-- words are in the signed order where the words, half a turn further on, are in order
abbrev pub SignedOrder : Type 0
SignedOrder =
    (a b : ℕ) → a < 65536 → b < 65536 →
    int_lt (signed_of a) (signed_of b) ≡ int_lt (pos (wrap_add a 32768)) (pos (wrap_add b 32768))

-- quotient and remainder make up the dividend
abbrev pub MakesUp : Type 0
MakesUp =
    (a b q r : ℕ) → a < 65536 → b < 65536 → sdiv a b ≡ quotient.Ok q r →
    signed_of q *ℤ signed_of b +ℤ signed_of r ≡ signed_of a

-- the remainder is nearer to 0 than the divisor
abbrev pub RemainderBelow : Type 0
RemainderBelow =
    (a b q r : ℕ) → a < 65536 → b < 65536 → sdiv a b ≡ quotient.Ok q r → unsigned_abs (signed_of r) < unsigned_abs (signed_of b)

-- two bytes and their word determine each other
abbrev pub Splits : Type 0
Splits = (w : ℕ) → joined (w % 256) (w / 256) ≡ w

abbrev pub Joins : Type 0
Joins = (low high : ℕ) → low < 256 → (joined low high % 256 ≡ low) × (joined low high / 256 ≡ high)
