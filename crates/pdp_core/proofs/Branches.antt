-- Which words begin branches, and which none, nor an instruction of one operand.
use Rattle.std.proofs.Common.{◌≡◌, ℕ, ◌+◌, ◌*◌, ◌/◌, ◌%◌, false, Some, None, refl, ap, ◌∙◌, subst, arith}
use Rattle.std.specs.Prelude.{◌==◌}
use Rattle.std.proofs.lemmas.Bool.{ne_eqb}
use Rattle.pdp_code.specs.declared.instruction.Condition.{Condition}
use Rattle.pdp_code.specs.declared.instruction.Instr.TheVariants.{Branch}
use Rattle.pdp_code.specs.Code.{condition_code}
use Rattle.pdp_code.specs.First.{or_else, double_of, double_first, sum_of, sum_first, single_of, single_first, word_of, word_first, condition_of, first_of}
use Rattle.pdp_code.specs.Laws.{WordsBegin}
use Rattle.pdp_core.specs.Groups.{from_sums, from_singles, from_words, from_registers}

pub is_branch : WordsBegin → (w : ℕ) (c : Condition) → w / 256 ≡ condition_code c → first_of w ≡ Some (Branch c (w % 256))
is_branch begin w c h =
    let same : condition_code c * 256 + w % 256 ≡ w = omega (arith, h) in
    subst (λ (x : ℕ). first_of x ≡ Some (Branch c (w % 256))) same (begin (Branch c (w % 256)) (omega arith))

no_sum : (w : ℕ) → (w / 4096 % 8 ≡ 6 → ⊥) → sum_of (w / 4096) ≡ None
no_sum w h =
    let six : (w / 4096 == 0o6) ≡ false = ne_eqb (w / 4096) 0o6 (λ e. h (omega (arith, e))) in
    let fourteen : (w / 4096 == 0o16) ≡ false = ne_eqb (w / 4096) 0o16 (λ e. h (omega (arith, e))) in
    rw (six, fourteen) refl

pub begins_single : (w : ℕ) → double_of (w / 4096 % 8) ≡ None → (w / 4096 % 8 ≡ 6 → ⊥) → first_of w ≡ from_singles w
begins_single w none h = ap (λ o. or_else (double_first o w) (from_sums w)) none ∙ ap (λ s. or_else (sum_first s w) (from_singles w)) (no_sum w h)

pub no_branch : (w : ℕ) → (w / 4096 % 8 ≡ 0 → ⊥) → condition_of (w / 256) ≡ None
no_branch w h =
    rw (
      other 1 (λ e. h (omega (arith, e))),
      other 2 (λ e. h (omega (arith, e))),
      other 3 (λ e. h (omega (arith, e))),
      other 4 (λ e. h (omega (arith, e))),
      other 5 (λ e. h (omega (arith, e))),
      other 6 (λ e. h (omega (arith, e))),
      other 7 (λ e. h (omega (arith, e))),
      other 128 (λ e. h (omega (arith, e))),
      other 129 (λ e. h (omega (arith, e))),
      other 130 (λ e. h (omega (arith, e))),
      other 131 (λ e. h (omega (arith, e))),
      other 132 (λ e. h (omega (arith, e))),
      other 133 (λ e. h (omega (arith, e))),
      other 134 (λ e. h (omega (arith, e))),
      other 135 (λ e. h (omega (arith, e))),
    ) refl
  where
    other : (n : ℕ) → (w / 256 ≡ n → ⊥) → (w / 256 == n) ≡ false
    other n d = ne_eqb (w / 256) n d

no_single : (w : ℕ) → w / 4096 % 8 ≡ 7 → single_of (w / 64 % 512) ≡ None
no_single w h =
    rw (
      other 40 (λ e. omega (arith, e, h)),
      other 41 (λ e. omega (arith, e, h)),
      other 42 (λ e. omega (arith, e, h)),
      other 43 (λ e. omega (arith, e, h)),
      other 44 (λ e. omega (arith, e, h)),
      other 45 (λ e. omega (arith, e, h)),
      other 46 (λ e. omega (arith, e, h)),
      other 47 (λ e. omega (arith, e, h)),
      other 48 (λ e. omega (arith, e, h)),
      other 49 (λ e. omega (arith, e, h)),
      other 50 (λ e. omega (arith, e, h)),
      other 51 (λ e. omega (arith, e, h)),
    ) refl
  where
    other : (n : ℕ) → (w / 64 % 512 ≡ n → ⊥) → (w / 64 % 512 == n) ≡ false
    other n d = ne_eqb (w / 64 % 512) n d

no_word : (w : ℕ) → w / 4096 % 8 ≡ 7 → word_of (w / 64) ≡ None
no_word w h =
    let swab : (w / 64 == 3) ≡ false = ne_eqb (w / 64) 3 (λ e. omega (arith, e, h)) in
    let sxt : (w / 64 == 55) ≡ false = ne_eqb (w / 64) 55 (λ e. omega (arith, e, h)) in
    rw (swab, sxt) refl

pub begins_register : (w : ℕ) → w / 4096 % 8 ≡ 7 → from_singles w ≡ from_registers w
begins_register w h = ap (λ o. or_else (single_first o w) (from_words w)) (no_single w h) ∙ ap (λ o. or_else (word_first o w) (from_registers w)) (no_word w h)
