-- Words and the numbers for which they stand.
use Rattle.std.proofs.Common.{arith, ◌≡◌, refl, sym, ◌∙◌, ap, ℕ, zero, suc, ◌/◌, ◌%◌, ◌<◌, ◌≤◌, w16, w32, to_z, of_z}
use Rattle.std.specs.Prelude.{ℤ, pos, negsuc, ◌*ℤ◌, ◌+ℤ◌, int_div, int_rem, unsigned_abs}
use Rattle.std.specs.Int.{int_wrap}
use Rattle.std.proofs.lemmas.Int.{ints, wrapping_mul-bits, quot-rem, rem_below}
use Rattle.std.proofs.Math.Nat.{div-le_self, div-le_of_le-mul, mod-le, le_trans}
use Rattle.rt_words.specs.Word.{signed_of, word_of}
use Rattle.rt_words.specs.Operators.{wrap_mul, sdiv}
use Rattle.rt_words.specs.declared.kinds.Quotient.TheVariants as quotient
use Rattle.rt_words.specs.Laws.{IsSignedWord}

pub word_back : (a : ℕ) → a < 65536 → word_of (signed_of a) ≡ a
word_back a h = grind (arith, ints)

pub number_back : (z : ℤ) → IsSignedWord z → signed_of (word_of z) ≡ z
number_back z h = grind (arith, ints)

pub as_signed : (a : ℕ) → a < 65536 → signed_of a ≡ to_z w16 a
as_signed a h = grind (arith, ints)

pub below : (z : ℤ) → word_of z < 65536
below z = grind (arith, ints)

pub wrap : (z : ℤ) → int_wrap w16 z ≡ signed_of (word_of z)
unfolding int_wrap
wrap z = sym (as_signed (word_of z) (below z))

pub product : (a b : ℕ) → a < 65536 → b < 65536 → wrap_mul a b ≡ word_of (signed_of a *ℤ signed_of b)
product a b p q =
    let back : wrap_mul a b ≡ word_of (signed_of (wrap_mul a b)) = sym (word_back (wrap_mul a b) (omega arith)) in
    let numbers : signed_of (wrap_mul a b) ≡ signed_of (word_of (to_z w16 a *ℤ to_z w16 b)) = as_signed (wrap_mul a b) (omega arith) ∙ wrapping_mul-bits w16 a b p q ∙ wrap (to_z w16 a *ℤ to_z w16 b) in
    rw (as_signed a p, as_signed b q) (back ∙ ap word_of numbers ∙ word_back (word_of (to_z w16 a *ℤ to_z w16 b)) (below (to_z w16 a *ℤ to_z w16 b)))

pub exact_product : (a b : ℕ) → a < 65536 → b < 65536 → IsSignedWord (signed_of a *ℤ signed_of b) → signed_of (wrap_mul a b) ≡ signed_of a *ℤ signed_of b
exact_product a b p q h = ap signed_of (product a b p q) ∙ number_back (signed_of a *ℤ signed_of b) h

-- a quotient is no farther from 0 than the dividend
pub quotient_near : (x y : ℤ) → unsigned_abs (int_div x y) ≤ unsigned_abs x
quotient_near (pos a) (pos b) = div-le_self a b
quotient_near (pos a) (negsuc b) = let h : a / suc b ≤ a = div-le_self a (suc b) in grind (arith, ints)
quotient_near (negsuc a) (pos b) = let h : suc a / b ≤ suc a = div-le_self (suc a) b in grind (arith, ints)
quotient_near (negsuc a) (negsuc b) = div-le_self (suc a) (suc b)

-- a remainder is no farther from 0 than the dividend
pub remainder_near : (x y : ℤ) → unsigned_abs (int_rem x y) ≤ unsigned_abs x
remainder_near (pos a) (pos b) = mod-le a b
remainder_near (pos a) (negsuc b) = mod-le a (suc b)
remainder_near (negsuc a) (pos b) = let h : suc a % b ≤ suc a = mod-le (suc a) b in grind (arith, ints)
remainder_near (negsuc a) (negsuc b) = let h : suc a % suc b ≤ suc a = mod-le (suc a) (suc b) in grind (arith, ints)

pub near : (a : ℕ) → a < 65536 → unsigned_abs (signed_of a) ≤ 32768
near a h = grind (arith, ints)

-- what is so near to 0 is not cut by 32 bits
pub uncut : (z : ℤ) → unsigned_abs z ≤ 32768 → to_z w32 (of_z w32 z) ≡ z
uncut z h = omega (arith, ints)

-- so 32 bits serve for a quotient and a remainder of words
pub in_32_bits : (f : ℤ → ℤ → ℤ) → ((x y : ℤ) → unsigned_abs (f x y) ≤ unsigned_abs x) → (a b : ℕ) → a < 65536 → b < 65536 → (x y : ℤ) → x ≡ signed_of a → y ≡ signed_of b → word_of (to_z w32 (of_z w32 (f (to_z w32 (of_z w32 x)) (to_z w32 (of_z w32 y))))) ≡ word_of (f (signed_of a) (signed_of b))
in_32_bits f near_f a b p q x y ex ey =
    let e : f (to_z w32 (of_z w32 x)) (to_z w32 (of_z w32 y)) ≡ f (signed_of a) (signed_of b) = rw (ex, ey, uncut (signed_of a) (near a p), uncut (signed_of b) (near b q)) refl in
    ap word_of (ap (λ z. to_z w32 (of_z w32 z)) e ∙ uncut (f (signed_of a) (signed_of b)) (le_trans (near_f (signed_of a) (signed_of b)) (near a p)))

-- by a divisor farther from 0 than 1 the quotient is at most half as far from 0
pub half_as_far : (n k : ℕ) → n ≤ 32768 → 2 ≤ k → n / k ≤ 16384
half_as_far n k h two = div-le_of_le-mul k (omega arith)

pub backwards : (x y : ℕ) → x ≤ 32767 → (x ≡ 32767 → y ≡ 0 → ⊥) → suc x / suc y ≤ 32767
backwards x zero h wide = grind arith
backwards x (suc y) h wide = le_trans (half_as_far (suc x) (suc (suc y)) (omega arith) (omega arith)) (omega arith)

-- but for -32768 by -1 the quotient is a word's number
pub quotient_fits : (x y : ℤ) → IsSignedWord x → (x ≡ negsuc 32767 → y ≡ negsuc 0 → ⊥) → IsSignedWord (int_div x y)
quotient_fits (pos a) (pos b) h wide = let near : a / b ≤ a = div-le_self a b in grind (arith, ints)
quotient_fits (pos a) (negsuc b) h wide = let near : a / suc b ≤ a = div-le_self a (suc b) in grind (arith, ints)
quotient_fits (negsuc a) (pos b) h wide = let near : suc a / b ≤ suc a = div-le_self (suc a) b in grind (arith, ints)
quotient_fits (negsuc a) (negsuc b) h wide =
    let near : suc a / suc b ≤ 32767 = backwards a b (grind (arith, ints)) (λ e f. wide (ap negsuc e) (ap negsuc f)) in grind (arith, ints)

pub remainder_fits : (x y : ℤ) → IsSignedWord x → IsSignedWord (int_rem x y)
remainder_fits (pos a) (pos b) h = let near : a % b ≤ a = mod-le a b in grind (arith, ints)
remainder_fits (pos a) (negsuc b) h = let near : a % suc b ≤ a = mod-le a (suc b) in grind (arith, ints)
remainder_fits (negsuc a) (pos b) h = let near : suc a % b ≤ suc a = mod-le (suc a) b in grind (arith, ints)
remainder_fits (negsuc a) (negsuc b) h = let near : suc a % suc b ≤ suc a = mod-le (suc a) (suc b) in grind (arith, ints)

pub in_range : (a : ℕ) → a < 65536 → IsSignedWord (signed_of a)
in_range a h = grind (arith, ints)

-- where there are a quotient and a remainder
pub record Divides (a b q r : ℕ) : Type 0 where
  pub divisor : 0 < b
  pub narrow : signed_of a ≡ negsuc 32767 → signed_of b ≡ negsuc 0 → ⊥
  pub quotient : q ≡ word_of (int_div (signed_of a) (signed_of b))
  pub remainder : r ≡ word_of (int_rem (signed_of a) (signed_of b))

pub divides : (a b q r : ℕ) → a < 65536 → b < 65536 → sdiv a b ≡ quotient.Ok q r → Divides a b q r
divides a b q r p o e = grind (arith, ints)

pub makes_up : (a b q r : ℕ) → a < 65536 → b < 65536 → sdiv a b ≡ quotient.Ok q r → signed_of q *ℤ signed_of b +ℤ signed_of r ≡ signed_of a
makes_up a b q r p o e =
    let d = divides a b q r p o e in
    let eq : signed_of q ≡ int_div (signed_of a) (signed_of b) = ap signed_of d.quotient ∙ number_back (int_div (signed_of a) (signed_of b)) (quotient_fits (signed_of a) (signed_of b) (in_range a p) d.narrow) in
    let er : signed_of r ≡ int_rem (signed_of a) (signed_of b) = ap signed_of d.remainder ∙ number_back (int_rem (signed_of a) (signed_of b)) (remainder_fits (signed_of a) (signed_of b) (in_range a p)) in
    rw (eq, er) (quot-rem (signed_of a) (signed_of b))

pub not_zero : (b : ℕ) → b < 65536 → 0 < b → 0 < unsigned_abs (signed_of b)
not_zero b o h = grind (arith, ints)

pub remainder_below : (a b q r : ℕ) → a < 65536 → b < 65536 → sdiv a b ≡ quotient.Ok q r → unsigned_abs (signed_of r) < unsigned_abs (signed_of b)
remainder_below a b q r p o e =
    let d = divides a b q r p o e in
    let er : signed_of r ≡ int_rem (signed_of a) (signed_of b) = ap signed_of d.remainder ∙ number_back (int_rem (signed_of a) (signed_of b)) (remainder_fits (signed_of a) (signed_of b) (in_range a p)) in
    rw er (rem_below (signed_of a) (signed_of b) (not_zero b o d.divisor))
