-- What operators and loops give is a word.
use Rattle.std.proofs.Common.{ℕ, ◌<◌, ◌≤◌, ◌%◌, ◌/◌, Bool, true, false, ◌&&◌, ◌==◌, if◌then◌else◌, arith}
use Rattle.std.specs.Prelude.{bit_and}
use Rattle.std.proofs.lemmas.Nat.{and_le_l, or_of_16, xor_of_16}
use Rattle.std.proofs.lemmas.Grind.{common_steps}
use Rattle.std.proofs.lemmas.Int.{ints}
use Rattle.std.proofs.Math.Nat.{div-le_self}
use Rattle.rt_tree_nodes.specs.declared.operators.Op1.{Op1}
use Rattle.rt_tree_nodes.specs.declared.operators.Op1.TheVariants as one
use Rattle.rt_tree_nodes.specs.declared.operators.Op2.{Op2}
use Rattle.rt_tree_nodes.specs.declared.operators.Op2.TheVariants as two
use Rattle.rt_words.specs.Word.{wrap_sub, is_negative}
use Rattle.rt_words.specs.Operators.{sdiv}
use Rattle.rt_words.specs.declared.kinds.Quotient.{Quotient}
use Rattle.rt_words.specs.declared.kinds.Quotient.TheVariants as quotient
use Rattle.rt_words.proofs.Numbers.{below}
use Rattle.rt_work.specs.declared.numbers.Share.{Share}
use Rattle.rt_work.specs.declared.numbers.Share.TheVariants.{Gives, Fails}
use Rattle.rt_work.specs.Numbers.{one_of, two_of, quotient_of, remainder_of, divided, distance, ends_before, turns, turns_to}

abs_below : (b : Bool) (a : ℕ) → a < 65536 → (if b then wrap_sub 0 a else a) < 65536
abs_below true a h = omega arith
abs_below false a h = h

pub one_below : (o : Op1) (a : ℕ) → a < 65536 → one_of o a < 65536
one_below one.Plus a h = h
one_below one.Minus a h = omega arith
one_below one.Abs a h = abs_below (is_negative a) a h
one_below one.Not a h = omega arith
one_below one.Byte a h = omega arith
one_below one.Int a h = h
one_below one.Frac a h = h

pub byte_below : (a : ℕ) → a % 256 < 256
byte_below a = omega arith

pub two_below : (o : Op2) (a b : ℕ) → a < 65536 → b < 65536 → two_of o a b < 65536
two_below two.Sll a b ha hb = grind (arith, common_steps)
two_below two.Srl a b ha hb = grind (arith, common_steps)
two_below two.Sla a b ha hb = grind (arith, common_steps)
two_below two.Sra a b ha hb = below _
two_below two.Times a b ha hb = grind (arith, common_steps)
two_below two.FracTimes a b ha hb = below _
two_below two.Divide a b ha hb = omega arith
two_below two.Mod a b ha hb = omega arith
two_below two.Land a b ha hb = let h : bit_and a b ≤ a = and_le_l a b in omega arith
two_below two.Plus a b ha hb = omega arith
two_below two.Minus a b ha hb = omega arith
two_below two.Lor a b ha hb = or_of_16 a b ha hb
two_below two.Nev a b ha hb = xor_of_16 a b ha hb

-- what a division gives is a word, and so is the number of its error
abbrev pub ShareBelow : Share → Type 0
ShareBelow (Gives n) = n < 65536
ShareBelow (Fails n) = n < 65536

abbrev QuotientBelow : Quotient → Type 0
QuotientBelow (quotient.Ok q r) = (q < 65536) × (r < 65536)
QuotientBelow _ = Unit {0}

zero_or : (c : Bool) (x y : Quotient) → QuotientBelow x → QuotientBelow y → QuotientBelow (if c then x else y)
zero_or true x y h k = h
zero_or false x y h k = k

sdiv_below : (a b : ℕ) → QuotientBelow (sdiv a b)
sdiv_below a b = zero_or (b == 0) _ _ tt (zero_or (a == 32768 && b == 65535) _ _ tt (below _, below _))

quotient_below : (q : Quotient) → QuotientBelow q → ShareBelow (quotient_of q)
quotient_below (quotient.Ok q r) h = h.0
quotient_below quotient.Zero h = omega arith
quotient_below quotient.Wide h = omega arith

remainder_below : (q : Quotient) → QuotientBelow q → ShareBelow (remainder_of q)
remainder_below (quotient.Ok q r) h = h.1
remainder_below quotient.Zero h = omega arith
remainder_below quotient.Wide h = omega arith

pub divided_below : (o : Op2) (a b : ℕ) → ShareBelow (divided o a b)
divided_below two.Divide a b = quotient_below (sdiv a b) (sdiv_below a b)
divided_below _ a b = remainder_below (sdiv a b) (sdiv_below a b)

-- ---- loops

distance_below : (a b : ℕ) → a < 65536 → b < 65536 → distance a b < 65536
distance_below a b ha hb = grind (arith, ints)

by_step : (c : Bool) (n : ℕ) → n ≤ 65536 → (if c then 0 else n) ≤ 65536
by_step true n h = omega arith
by_step false n h = h

pub turns_below : (start step end : ℕ) → start < 65536 → end < 65536 → turns start step end ≤ 65536
turns_below start step end hs he =
    let far : distance start end < 65536 = distance_below start end hs he in
    let less : distance start end / distance 0 step ≤ distance start end = div-le_self (distance start end) (distance 0 step) in
    by_step (step == 0) _ (by_step (ends_before start step end) _ (omega arith))

pub turns_to_below : (n : ℕ) → n < 65536 → turns_to n ≤ 65536
turns_to_below n h = by_step (is_negative n) n (omega arith)
