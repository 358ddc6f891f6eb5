-- The operators of the language on words of 16 bits, by the signed numbers for which the words stand.
use Rattle.std.specs.Prelude.{ℕ, ◌+◌, ◌*◌, ◌/◌, ◌%◌, ◌^◌, ◌==◌, ◌&&◌, if◌then◌else◌, List, [], ◌∷◌, pos, ◌*ℤ◌, int_div, int_rem}
use Rattle.std.specs.Int.{int_div_euclid}
use Rattle.rt_words.specs.Word.{signed_of, word_of}
use Rattle.rt_words.specs.declared.kinds.Quotient.{Quotient}
use Rattle.rt_words.specs.declared.kinds.Quotient.TheVariants as quotient
use Rattle.rt_words.specs.declared.kinds.Shift.{Shift}
use Rattle.rt_words.specs.declared.kinds.Shift.TheVariants.{Sll, Srl, Sla, Sra}

-- the low 16 bits of the product
abbrev pub wrap_mul : ℕ → ℕ → ℕ
wrap_mul a b = (a * b) % 65536

-- bits 15 to 30 of the product of the signed numbers: it is divided by 32768 and rounded down
abbrev pub frac_mul : ℕ → ℕ → ℕ
frac_mul a b = word_of (int_div_euclid (signed_of a *ℤ signed_of b) (pos 32768))

-- quotient and remainder of the signed numbers: the quotient is rounded towards zero, and the remainder has the sign of a
abbrev pub divided : ℕ → ℕ → Quotient
divided a b = quotient.Ok (word_of (int_div (signed_of a) (signed_of b))) (word_of (int_rem (signed_of a) (signed_of b)))

-- there is no quotient by 0, and that of -32768 by -1 is no word
abbrev pub sdiv : ℕ → ℕ → Quotient
sdiv a b =
    if b == 0 then quotient.Zero else
    if a == 32768 && b == 65535 then quotient.Wide else
    divided a b

-- a word shifted by k places
abbrev pub shifted : Shift → ℕ → ℕ → ℕ
shifted Sll a k = (a * 2 ^ k) % 65536
shifted Srl a k = a / 2 ^ k
shifted Sla a k = (a * 2 ^ k) % 65536
shifted Sra a k = word_of (int_div_euclid (signed_of a) (pos (2 ^ k)))

-- the count of places is taken modulo 16
abbrev pub shift : Shift → ℕ → ℕ → ℕ
shift kind a n = shifted kind a (n % 16)

-- the character of the octal digit of a that counts so many units
abbrev pub octal_digit : ℕ → ℕ → ℕ
octal_digit a unit = 48 + a / unit % 8

-- a word in six octal digits
abbrev pub octal6 : ℕ → List ℕ
octal6 a =
    octal_digit a 32768 ∷ octal_digit a 4096 ∷ octal_digit a 512 ∷ octal_digit a 64 ∷ octal_digit a 8 ∷ octal_digit a 1 ∷ []
