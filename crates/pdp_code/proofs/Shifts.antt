-- What is shifted stays below its bound.
use Rattle.std.proofs.Common.{ℕ, zero, suc, ◌+◌, ◌-◌, ◌/◌, ◌%◌, ◌<◌, ◌≤◌, Bool, true, false, arith}
use Rattle.std.specs.Prelude.{nat_lt, nat_le, if◌then◌else◌}
use Rattle.pdp_code.specs.declared.value.Shift.{Shift}
use Rattle.pdp_code.specs.Values.{lefts, rights, unshifted, shifted}

pub lefts_below : (n l h : ℕ) (s : Shift) → 0 < l → s.value < l → (lefts n l h s).value < l
lefts_below zero l h s p q = q
lefts_below (suc n) l h s p q = omega arith

right_below : (b : Bool) (x l h : ℕ) → x < l → h + h ≤ l → x / 2 + (if b then h else 0) < l
right_below true x l h p q = omega arith
right_below false x l h p q = omega arith

pub rights_below : (n l h : ℕ) (s : Shift) → h + h ≤ l → s.value < l → (rights n h s).value < l
rights_below zero l h s p q = q
rights_below (suc n) l h s p q = right_below (nat_le h (rights n h s).value) (rights n h s).value l h (rights_below n l h s p q) p

pub shifted_below : (l h x n : ℕ) → 0 < l → h + h ≤ l → x < l → (shifted l h x n).value < l
shifted_below l h x n p q r =
    let s : Shift = unshifted x in
    elim (nat_lt (n % 64) 32) as (λ b. (if b then lefts (n % 64) l h s else rights (64 - n % 64) h s).value < l) [
      | true ↦ lefts_below (n % 64) l h s p r
      | false ↦ rights_below (64 - n % 64) l h s q r
    ]
