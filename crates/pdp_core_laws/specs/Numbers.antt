-- The laws above the instruction table: what its effects mean for the numbers that words stand for.
use Rattle.std.specs.Prelude.{◌≡◌, ℕ, ◌+◌, ◌*◌, ◌%◌, ◌^◌, ◌<◌, ◌⊎◌, Bool, false, nat_lt, not, ◌&&◌, if◌then◌else◌, ℤ, pos, negsuc, neg_ℤ, ◌+ℤ◌, ◌-ℤ◌, ◌*ℤ◌, int_lt, int_le, int_div, int_rem, unsigned_abs, length}
use Rattle.std.specs.Int.{int_div_euclid}
use Rattle.rt_words.specs.Word.{signed_of}
use Rattle.pdp_code.specs.declared.instruction.Reg.{Reg}
use Rattle.pdp_code.specs.declared.instruction.Size.{Size}
use Rattle.pdp_code.specs.declared.instruction.Size.TheVariants.{Word}
use Rattle.pdp_code.specs.declared.instruction.SingleOp.{SingleOp}
use Rattle.pdp_code.specs.declared.instruction.SingleOp.TheVariants.{Ror, Rol, Asr, Asl}
use Rattle.pdp_code.specs.declared.instruction.Condition.{Condition}
use Rattle.pdp_code.specs.Code.{reg_code}
use Rattle.pdp_core.specs.declared.cpu.Regs.{Regs}
use Rattle.pdp_code.specs.Values.{limit, half, plus, minus, one_if, single_value, product_of, no_word, too_large, quotient_word, remainder_word, unshifted, lefts, rights}
use Rattle.pdp_core.specs.Execute.{by_sum, by_difference, single_flags, holds, pair, shift_pair}

-- the number that x stands for in two's complement, where those from h on stand for themselves less l
abbrev pub signed_in : ℕ → ℕ → ℕ → ℤ
signed_in l h x = if nat_lt x h then pos x else pos x -ℤ pos l

-- the number that 32 bits stand for
abbrev pub signed_long : ℕ → ℤ
signed_long x = signed_in 4294967296 2147483648 x

-- whether a number is one that a word stands for
abbrev pub is_signed_word : ℤ → Bool
is_signed_word z = int_le (negsuc 32767) z && int_le z (pos 32767)

-- the signed number that a word, or a byte, stands for
abbrev pub signed_at : Size → ℕ → ℤ
signed_at z x = signed_in (limit z) (half z) x

-- after CMP x,y of words, or of bytes, a branch is taken just where the signed numbers are in that order
abbrev pub TakenBy : Condition → (ℤ → ℤ → Bool) → Type 0
TakenBy c order = (g : Regs) (z : Size) (x y : ℕ) → x < limit z → y < limit z → holds (by_difference g z x y) c ≡ order (signed_at z x) (signed_at z y)

-- after CMP x,y of words, or of bytes, a branch is taken just where the unsigned numbers are in that order
abbrev pub TakenUnsigned : Condition → (ℕ → ℕ → Bool) → Type 0
TakenUnsigned c order = (g : Regs) (z : Size) (x y : ℕ) → x < limit z → y < limit z → holds (by_difference g z x y) c ≡ order x y

-- whether a number is one that a word, or a byte, stands for
abbrev pub is_signed : Size → ℤ → Bool
is_signed z n = int_le (neg_ℤ (pos (half z))) n && int_lt n (pos (half z))

-- the same of unsigned numbers
abbrev pub is_unsigned : Size → ℤ → Bool
is_unsigned z n = int_le (pos 0) n && int_lt n (pos (limit z))

-- V after ADD is set just where no word stands for the sum of the signed numbers
abbrev pub SumOverflows : Type 0
SumOverflows = (g : Regs) (a b : ℕ) → a < 65536 → b < 65536 → (by_sum g a b).v ≡ not (is_signed Word (signed_of a +ℤ signed_of b))

-- C just where none stands for that of the unsigned ones
abbrev pub SumCarries : Type 0
SumCarries = (g : Regs) (a b : ℕ) → a < 65536 → b < 65536 → (by_sum g a b).c ≡ not (is_unsigned Word (pos a +ℤ pos b))

-- where V stays clear the word that is left stands for the sum
abbrev pub SumStands : Type 0
SumStands = (g : Regs) (a b : ℕ) → a < 65536 → b < 65536 → (by_sum g a b).v ≡ false → signed_of (plus Word a b) ≡ signed_of a +ℤ signed_of b

-- V after SUB and CMP is set just where no word, or no byte, stands for the difference of the signed numbers
abbrev pub DifferenceOverflows : Type 0
DifferenceOverflows = (g : Regs) (z : Size) (a b : ℕ) → a < limit z → b < limit z → (by_difference g z a b).v ≡ not (is_signed z (signed_at z a -ℤ signed_at z b))

-- C just where none stands for that of the unsigned ones
abbrev pub DifferenceCarries : Type 0
DifferenceCarries = (g : Regs) (z : Size) (a b : ℕ) → a < limit z → b < limit z → (by_difference g z a b).c ≡ not (is_unsigned z (pos a -ℤ pos b))

-- where V stays clear what is left stands for the difference
abbrev pub DifferenceStands : Type 0
DifferenceStands = (g : Regs) (z : Size) (a b : ℕ) → a < limit z → b < limit z → (by_difference g z a b).v ≡ false → signed_at z (minus z a b) ≡ signed_at z a -ℤ signed_at z b

-- V after an operation on one operand, with C before it, is set just where no word, or no byte, stands for the result of
-- the signed number
abbrev pub Overflows : SingleOp → (Bool → ℤ → ℤ) → Type 0
Overflows o result = (g : Regs) (z : Size) (y : ℕ) → y < limit z → (single_flags g o z y).v ≡ not (is_signed z (result g.c (signed_at z y)))

-- C just where none stands for that of the unsigned one
abbrev pub Carries : SingleOp → (Bool → ℤ → ℤ) → Type 0
Carries o result = (g : Regs) (z : Size) (y : ℕ) → y < limit z → (single_flags g o z y).c ≡ not (is_unsigned z (result g.c (pos y)))

-- where V stays clear what is left stands for that result
abbrev pub Stands : SingleOp → (Bool → ℤ → ℤ) → Type 0
Stands o result = (g : Regs) (z : Size) (y : ℕ) → y < limit z → (single_flags g o z y).v ≡ false → signed_at z (single_value o z g.c y) ≡ result g.c (signed_at z y)

-- an operation leaves C as it was
abbrev pub KeepsCarry : SingleOp → Type 0
KeepsCarry o = (g : Regs) (z : Size) (y : ℕ) → (single_flags g o z y).c ≡ g.c

-- what C stands for above the top bit
abbrev pub above : Size → Bool → ℕ
above z c = if c then limit z else 0

-- ASL doubles: C is the bit that is lost above
abbrev pub ShiftsLeft : Type 0
ShiftsLeft = (g : Regs) (z : Size) (y : ℕ) → y < limit z → single_value Asl z g.c y + above z (single_flags g Asl z y).c ≡ 2 * y

-- ROL doubles and takes C in below
abbrev pub RotatesLeft : Type 0
RotatesLeft = (g : Regs) (z : Size) (y : ℕ) → y < limit z → single_value Rol z g.c y + above z (single_flags g Rol z y).c ≡ 2 * y + one_if g.c

-- ASR halves the signed number, rounded down
abbrev pub Halves : Type 0
Halves = (c : Bool) (z : Size) (y : ℕ) → y < limit z → signed_at z (single_value Asr z c y) ≡ int_div_euclid (signed_at z y) (pos 2)

-- and C is the bit that is lost below
abbrev pub ShiftsRight : Type 0
ShiftsRight = (g : Regs) (z : Size) (y : ℕ) → y < limit z → pos 2 *ℤ signed_at z (single_value Asr z g.c y) +ℤ pos (one_if (single_flags g Asr z y).c) ≡ signed_at z y

-- ROR takes C in above and halves: C is the bit that is lost below
abbrev pub RotatesRight : Type 0
RotatesRight = (g : Regs) (z : Size) (y : ℕ) → y < limit z → 2 * single_value Ror z g.c y + one_if (single_flags g Ror z y).c ≡ y + above z g.c

-- MUL's 32 bits stand for the product of the signed numbers
abbrev pub Product : Type 0
Product = (a b : ℕ) → a < 65536 → b < 65536 → signed_long (product_of a b) ≡ signed_of a *ℤ signed_of b

-- where C stays clear the low word alone stands for it
abbrev pub LowWord : Type 0
LowWord = (x : ℕ) → x < 4294967296 → no_word x ≡ false → signed_of (x % 65536) ≡ signed_long x

-- DIV's quotient is too large just where that of the signed numbers, rounded towards zero, is no word
abbrev pub Wide : Type 0
Wide = (a b : ℕ) → a < 4294967296 → 0 < b → b < 65536 → too_large a b ≡ not (is_signed_word (int_div (signed_long a) (signed_of b)))

-- else it is that quotient
abbrev pub Quotient : Type 0
Quotient = (a b : ℕ) → a < 4294967296 → 0 < b → b < 65536 → too_large a b ≡ false → signed_of (quotient_word a b) ≡ int_div (signed_long a) (signed_of b)

-- and the remainder has the dividend's sign
abbrev pub Remainder : Type 0
Remainder = (a b : ℕ) → a < 4294967296 → 0 < b → b < 65536 → signed_of (remainder_word a b) ≡ int_rem (signed_long a) (signed_of b)

-- DIV's remainder is 0, or below 0 just where the dividend is
abbrev pub SameSign : Type 0
SameSign = (a b : ℕ) → a < 4294967296 → 0 < b → b < 65536 → (signed_of (remainder_word a b) ≡ pos 0) ⊎ (int_lt (signed_of (remainder_word a b)) (pos 0) ≡ int_lt (signed_long a) (pos 0))

-- and it is nearer to 0 than the divisor
abbrev pub Smaller : Type 0
Smaller = (a b : ℕ) → a < 4294967296 → 0 < b → b < 65536 → unsigned_abs (signed_of (remainder_word a b)) < unsigned_abs (signed_of b)

-- quotient times divisor and remainder are the dividend
abbrev pub Division : Type 0
Division = (a b : ℕ) → a < 4294967296 → 0 < b → b < 65536 → too_large a b ≡ false → signed_of (quotient_word a b) *ℤ signed_of b +ℤ signed_of (remainder_word a b) ≡ signed_long a

-- n shifts to the left multiply by 2 ^ n, and keep the low bits
abbrev pub Leftward : ℕ → ℕ → Type 0
Leftward l h = (x n : ℕ) → x < l → (lefts n l h (unshifted x)).value ≡ (x * 2 ^ n) % l

-- where V stays clear they multiply the signed number
abbrev pub Doubling : ℕ → ℕ → Type 0
Doubling l h = (x n : ℕ) → x < l → (lefts n l h (unshifted x)).turned ≡ false → signed_in l h (lefts n l h (unshifted x)).value ≡ signed_in l h x *ℤ pos (2 ^ n)

-- n shifts to the right divide the signed number by 2 ^ n, rounded down
abbrev pub Rightward : ℕ → ℕ → Type 0
Rightward l h = (x n : ℕ) → x < l → signed_in l h (rights n h (unshifted x)).value ≡ int_div_euclid (signed_in l h x) (pos (2 ^ n))

-- ASHC leaves the 32 bits that were shifted in the pair of registers
abbrev pub InPair : Type 0
InPair = (g : Regs) (r : Reg) (x n : ℕ) → length g.r ≡ 8 → reg_code r < 7 → x < 4294967296 →
    (pair (shift_pair g r (lefts n 4294967296 2147483648 (unshifted x))) r ≡ (lefts n 4294967296 2147483648 (unshifted x)).value)
    × (pair (shift_pair g r (rights n 2147483648 (unshifted x))) r ≡ (rights n 2147483648 (unshifted x)).value)
