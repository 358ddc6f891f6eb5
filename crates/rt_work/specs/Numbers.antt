-- What the operators, relations and loops of the language give, on words of 16 bits. Words stand for signed numbers.
use Rattle.std.specs.Prelude.{ℕ, suc, ◌-◌, ◌/◌, ◌%◌, Bool, false, not, ◌==◌, if◌then◌else◌, bit_and, bit_or, bit_xor, ◌-ℤ◌, int_lt, unsigned_abs}
use Rattle.rt_words.specs.Word.{wrap_add, wrap_sub, is_negative, signed_of}
use Rattle.rt_words.specs.Operators.{wrap_mul, frac_mul, sdiv, shift}
use Rattle.rt_words.specs.declared.kinds.Shift.TheVariants as by
use Rattle.rt_words.specs.declared.kinds.Quotient.{Quotient}
use Rattle.rt_words.specs.declared.kinds.Quotient.TheVariants as quotient
use Rattle.rt_work.specs.declared.numbers.Share.{Share}
use Rattle.rt_work.specs.declared.numbers.Share.TheVariants.{Gives, Fails}
use Rattle.rt_tree_nodes.specs.declared.operators.Op1.{Op1}
use Rattle.rt_tree_nodes.specs.declared.operators.Op1.TheVariants as one
use Rattle.rt_tree_nodes.specs.declared.operators.Op2.{Op2}
use Rattle.rt_tree_nodes.specs.declared.operators.Op2.TheVariants as two
use Rattle.rt_tree_nodes.specs.declared.operators.Rel.{Rel}
use Rattle.rt_tree_nodes.specs.declared.operators.Rel.TheVariants as rel

-- ---- operators

-- a monadic operator; negation and ABS keep the low 16 bits
abbrev pub one_of : Op1 → ℕ → ℕ
one_of one.Plus a = a
one_of one.Minus a = wrap_sub 0 a
one_of one.Abs a = if is_negative a then wrap_sub 0 a else a
one_of one.Not a = 65535 - a
one_of one.Byte a = a % 256
one_of one.Int a = a
one_of one.Frac a = a

-- a dyadic operator that isn't a division
abbrev pub two_of : Op2 → ℕ → ℕ → ℕ
two_of two.Sll a b = shift by.Sll a b
two_of two.Srl a b = shift by.Srl a b
two_of two.Sla a b = shift by.Sla a b
two_of two.Sra a b = shift by.Sra a b
two_of two.Times a b = wrap_mul a b
two_of two.FracTimes a b = frac_mul a b
two_of two.Divide a b = 0
two_of two.Mod a b = 0
two_of two.Land a b = bit_and a b
two_of two.Plus a b = wrap_add a b
two_of two.Minus a b = wrap_sub a b
two_of two.Lor a b = bit_or a b
two_of two.Nev a b = bit_xor a b

-- `:/` gives the quotient; error 2 is the divisor 0, error 3 is -32768 divided by -1
abbrev pub quotient_of : Quotient → Share
quotient_of (quotient.Ok q r) = Gives q
quotient_of quotient.Zero = Fails 2
quotient_of quotient.Wide = Fails 3

-- MOD gives the remainder; that of -32768 by -1 is 0
abbrev pub remainder_of : Quotient → Share
remainder_of (quotient.Ok q r) = Gives r
remainder_of quotient.Zero = Fails 2
remainder_of quotient.Wide = Gives 0

abbrev pub divided : Op2 → ℕ → ℕ → Share
divided two.Divide a b = quotient_of (sdiv a b)
divided _ a b = remainder_of (sdiv a b)

-- ---- relations

-- whether the number of word a is below that of word b
abbrev pub is_less : ℕ → ℕ → Bool
is_less a b = int_lt (signed_of a) (signed_of b)

-- a relation of two words; `:=:` and `:#:` compare no words
abbrev pub holds : Rel → ℕ → ℕ → Bool
holds rel.Equal a b = a == b
holds rel.Unequal a b = not (a == b)
holds rel.Less a b = is_less a b
holds rel.LessOrEqual a b = not (is_less b a)
holds rel.Greater a b = is_less b a
holds rel.GreaterOrEqual a b = not (is_less a b)
holds rel.Same a b = false
holds rel.Different a b = false

-- ---- loops

-- how far one number is from another
abbrev pub distance : ℕ → ℕ → ℕ
distance a b = unsigned_abs (signed_of b -ℤ signed_of a)

-- whether the end lies before the start in the step's direction
abbrev pub ends_before : ℕ → ℕ → ℕ → Bool
ends_before start step end = if is_negative step then is_less start end else is_less end start

-- The turns of a FOR: 0 for step 0 or where the end lies before the start in the step's direction, else 1 and the
-- distance from start to end divided by the step's size, downwards.
abbrev pub turns : ℕ → ℕ → ℕ → ℕ
turns start step end =
    if step == 0 then 0 else
    if ends_before start step end then 0 else
    suc (distance start end / distance 0 step)

-- the turns of a TO: none below 1
abbrev pub turns_to : ℕ → ℕ
turns_to n = if is_negative n then 0 else n
