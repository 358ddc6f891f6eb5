-- What operations compute of words and bytes.
use Rattle.std.specs.Prelude.{ℕ, ◌+◌, ◌-◌, ◌*◌, ◌/◌, ◌%◌, Bool, true, false, ◌==◌, ◌&&◌, ◌||◌, nat_lt, nat_le, not, if◌then◌else◌, zero, suc}
use Rattle.rt_words.specs.Word.{differ}
use Rattle.pdp_code.specs.declared.instruction.Size.{Size}
use Rattle.pdp_code.specs.declared.instruction.Size.TheVariants.{Word, Byte}
use Rattle.pdp_code.specs.declared.instruction.SingleOp.{SingleOp}
use Rattle.pdp_code.specs.declared.instruction.SingleOp.TheVariants.{Clr, Com, Inc, Dec, Neg, Adc, Sbc, Tst, Ror, Rol, Asr, Asl}
use Rattle.pdp_code.specs.declared.value.Shift.{Shift}

-- how many values a word or a byte has, and half of them
abbrev pub limit : Size → ℕ
limit Word = 65536
limit Byte = 256

abbrev pub half : Size → ℕ
half Word = 32768
half Byte = 128

abbrev pub negative : Size → ℕ → Bool
negative z x = nat_le (half z) x

abbrev pub plus : Size → ℕ → ℕ → ℕ
plus z a b = (a + b) % limit z

abbrev pub minus : Size → ℕ → ℕ → ℕ
minus z a b = (a + (limit z - b)) % limit z

abbrev pub one_if : Bool → ℕ
one_if b = if b then 1 else 0

abbrev pub half_if : Size → Bool → ℕ
half_if z b = if b then half z else 0

-- what an operation makes of y, with C before it
abbrev pub single_value : SingleOp → Size → Bool → ℕ → ℕ
single_value Clr z c y = 0
single_value Com z c y = limit z - 1 - y
single_value Inc z c y = plus z y 1
single_value Dec z c y = minus z y 1
single_value Neg z c y = minus z 0 y
single_value Adc z c y = plus z y (one_if c)
single_value Sbc z c y = minus z y (one_if c)
single_value Tst z c y = y
single_value Ror z c y = y / 2 + half_if z c
single_value Rol z c y = (2 * y + one_if c) % limit z
single_value Asr z c y = y / 2 + half_if z (negative z y)
single_value Asl z c y = (2 * y) % limit z

-- C after it
abbrev pub single_carry : SingleOp → Size → Bool → ℕ → ℕ → Bool
single_carry Clr z c y x = false
single_carry Com z c y x = true
single_carry Inc z c y x = c
single_carry Dec z c y x = c
single_carry Neg z c y x = not (x == 0)
single_carry Adc z c y x = y == limit z - 1 && c
single_carry Sbc z c y x = y == 0 && c
single_carry Tst z c y x = false
single_carry Ror z c y x = y % 2 == 1
single_carry Rol z c y x = negative z y
single_carry Asr z c y x = y % 2 == 1
single_carry Asl z c y x = negative z y

-- V after it
abbrev pub single_overflow : SingleOp → Size → Bool → ℕ → ℕ → Bool
single_overflow Clr z c y x = false
single_overflow Com z c y x = false
single_overflow Inc z c y x = y == half z - 1
single_overflow Dec z c y x = y == half z
single_overflow Neg z c y x = x == half z
single_overflow Adc z c y x = y == half z - 1 && c
single_overflow Sbc z c y x = y == half z && c
single_overflow Tst z c y x = false
single_overflow Ror z c y x = differ (negative z x) (y % 2 == 1)
single_overflow Rol z c y x = differ (negative z x) (negative z y)
single_overflow Asr z c y x = differ (negative z x) (y % 2 == 1)
single_overflow Asl z c y x = differ (negative z x) (negative z y)

-- a word as 32 bits of the same sign
abbrev pub widened : ℕ → ℕ
widened x = if nat_lt x 32768 then x else x + 4294901760

-- the 32 bits of the product of two signed words
abbrev pub product_of : ℕ → ℕ → ℕ
product_of a b = (widened a * widened b) % 4294967296

-- whether 32 bits stand for a number outside the signed words
abbrev pub no_word : ℕ → Bool
no_word x = nat_le 32768 x && nat_lt x 4294934528

-- how far a number is from 0, where those from h on stand for themselves less l
abbrev pub magnitude : ℕ → ℕ → ℕ → ℕ
magnitude l h x = if nat_le h x then l - x else x

-- a word that is as far from 0
abbrev pub signed_word : Bool → ℕ → ℕ
signed_word below x = if below then (65536 - x) % 65536 else x

-- whether the quotient of a, 32 bits, and b is no word: it is rounded towards zero, below 0 where the signs differ
abbrev pub too_large : ℕ → ℕ → Bool
too_large a b = nat_lt (if differ (nat_le 2147483648 a) (nat_le 32768 b) then 32768 else 32767) (magnitude 4294967296 2147483648 a / magnitude 65536 32768 b)

abbrev pub quotient_word : ℕ → ℕ → ℕ
quotient_word a b = signed_word (differ (nat_le 2147483648 a) (nat_le 32768 b)) (magnitude 4294967296 2147483648 a / magnitude 65536 32768 b)

-- the remainder has the sign of a
abbrev pub remainder_word : ℕ → ℕ → ℕ
remainder_word a b = signed_word (nat_le 2147483648 a) (magnitude 4294967296 2147483648 a % magnitude 65536 32768 b)

abbrev pub one_left : ℕ → ℕ → Shift → Shift
one_left l h s =
    let x = (2 * s.value) % l in
    record { value = x; carry = nat_le h s.value; turned = s.turned || differ (nat_le h x) (nat_le h s.value) }

abbrev pub one_right : ℕ → Shift → Shift
one_right h s = record { value = s.value / 2 + (if nat_le h s.value then h else 0); carry = s.value % 2 == 1; turned = s.turned }

abbrev pub lefts : ℕ → ℕ → ℕ → Shift → Shift
lefts zero l h s = s
lefts (suc n) l h s = one_left l h (lefts n l h s)

abbrev pub rights : ℕ → ℕ → Shift → Shift
rights zero h s = s
rights (suc n) h s = one_right h (rights n h s)

-- before the first shift
abbrev pub unshifted : ℕ → Shift
unshifted x = record { value = x; carry = false; turned = false }

-- by the low six bits of a word: to the left below 32, else to the right
abbrev pub shifted : ℕ → ℕ → ℕ → ℕ → Shift
shifted l h x n =
    if nat_lt (n % 64) 32 then lefts (n % 64) l h (unshifted x) else rights (64 - n % 64) h (unshifted x)
