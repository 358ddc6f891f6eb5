-- The names of the tasks of a system are names as reports have them.
use Rattle.std.proofs.Common.{◌≡◌, ℕ, ◌≤◌, Bool, true, false, ◌||◌, List, [], ◌∷◌, length, refl, sym, ap, ◌∙◌, arith}
use Rattle.std.specs.List.{AllByRecursion}
use Rattle.rt_pieces.specs.Bytes.{is_letter, is_digit, is_letter_or_digit, Each}
use Rattle.rt_pieces.specs.Pieces.{IsName}
use Rattle.rt_system.proofs.Tests.{true_false}
use Rattle.rt_replay.specs.Reports.{IsInsideName, IsReportName}
use Rattle.rt_replay.specs.Laws.{SystemNamesAreReportNames}

no_such_byte : (c d : ℕ) → is_letter_or_digit c ≡ true → is_letter_or_digit d ≡ false → c ≡ d → ⊥
no_such_byte c d h k e = true_false (is_letter_or_digit d) (ap is_letter_or_digit (sym e) ∙ h) k

letter_inside : (c : ℕ) → is_letter_or_digit c ≡ true → IsInsideName c
letter_inside c h = (λ e. no_such_byte c 32 h refl e, λ e. no_such_byte c 10 h refl e)

letters_inside : (l : List ℕ) → Each is_letter_or_digit l → AllByRecursion IsInsideName l
letters_inside [] h = tt
letters_inside (c ∷ cs) h = (letter_inside c h.0, letters_inside cs h.1)

letter_first : (c : ℕ) → is_letter c ≡ true → is_letter_or_digit c ≡ true
letter_first c h = ap (λ (b : Bool). b || is_digit c) h

told : (name : List ℕ) → IsName name [] → length name ≤ 32 → IsReportName name
told [] form short = absurd form
told (c ∷ cs) form short = record {
  short = (omega arith, short);
  inside = (letter_inside c (letter_first c form.0), letters_inside cs form.1);
}

pub named_is_told : SystemNamesAreReportNames
named_is_told name h = told name h.form h.short
