-- Numbers are read as they are printed.
use Rattle.std.proofs.Common.{◌≡◌, ℕ, ◌+◌, ◌-◌, ◌*◌, ◌/◌, ◌%◌, ◌^◌, ◌<◌, ◌≤◌, Bool, true, false, not, ◌&&◌, ◌||◌, cond, eqb, leb, ltb, List, [], ◌∷◌, ◌++◌, length, get_or, codes, decimal, Option, Some, None, refl, sym, ap, subst, ◌∙◌, arith}
use Rattle.std.specs.Prelude.{fold}
use Rattle.std.specs.Int.{IsInRange}
use Rattle.std.specs.List.{list_all}
use Rattle.std.proofs.lemmas.Bool.{leb-true, le-leb}
use Rattle.std.proofs.lemmas.Bool.Decides.{nat_tests}
use Rattle.std.proofs.lemmas.Fmt.{decimal_digit, decimal_nonempty, first_decimal, digits_decimal, digits_value-decimal, decimal-digits_value}
use Rattle.std.proofs.lemmas.Str.Parse.{IsDigitsTest, FoldsDigits, IsNumeralModel, numerals_by_fold}
use Rattle.rt_words.specs.Operators.{octal6}
use Rattle.rt_report.specs.Reports.{signed_text}
use Rattle.rt_system.specs.Numbers.{digits_value}
use Rattle.rt_system.specs.Reading.{is_digit}
use Rattle.rt_system.specs.ReadingSystems.{and_then}
use Rattle.rt_system.proofs.Tests.{passes, none_some, some_inj, and_parts, and_both}
use Rattle.rt_system.proofs.NumberReads.{plain_by}
use Rattle.rt_system.proofs.Words.{same_means, same_is}
use Rattle.rt_replay.specs.Reading.{behind, unended, is_decimal, number, counted_in, below_zero, signed_by, signed_number, octal_value, is_octal}
use Rattle.rt_replay.proofs.Pieces.{found, behind_means, behind_is, behind_none, unended_means, unended_is}

-- ---- digits

abbrev are_digits : List ℕ → Type 0
are_digits text = list_all is_digit text ≡ true

abbrev value_on : ℕ → List ℕ → ℕ
value_on = fold (λ n c. 10 * n + (c - 48))

in_range : (c : ℕ) → is_digit c ≡ true → IsInRange 48 57 c
in_range c h = grind (arith, nat_tests)

from_range : (c : ℕ) → IsInRange 48 57 c → is_digit c ≡ true
from_range c h = grind (arith, nat_tests)

digits_test : IsDigitsTest are_digits
digits_test = record {
  empty = refl;
  parts = λ c cs h. let k = and_parts (is_digit c) (list_all is_digit cs) h in (in_range c k.0, k.1);
  more = λ c cs r h. and_both (is_digit c) (list_all is_digit cs) (from_range c r) h;
}

one_more : (n c : ℕ) → 10 * n + (c - 48) ≡ n * 10 + (c - 48)
one_more n c = omega arith

digits_fold : FoldsDigits value_on
digits_fold = record {
  empty = λ n. refl;
  more = λ n c cs r. ap (λ (m : ℕ). value_on m cs) (one_more n c);
}

own : IsNumeralModel are_digits (value_on 0)
own = numerals_by_fold are_digits digits_test value_on digits_fold

pub digits_are : (n : ℕ) → n < 2 ^ 64 → list_all is_digit (decimal n) ≡ true
digits_are n low = digits_decimal own n low

-- ---- numbers without a sign

abbrev leads : List ℕ → Bool
leads text = eqb (length text) 1 || not (eqb (get_or text 0 0) 48)

no_zero : (n c : ℕ) → (eqb n 1 || not (eqb c 48)) ≡ true → c ≡ 48 → n ≡ 1
no_zero n c h e = grind (arith, nat_tests)

pub number_means : (most : ℕ) (text : List ℕ) (n : ℕ) → most < 2 ^ 64 → number most text ≡ Some n → (text ≡ decimal n) × (n ≤ most)
unfolding number
number_means most text n low e =
    let h = passes (is_decimal text && leb (digits_value text) most) (digits_value text) n e in
    let k = and_parts (is_decimal text) (leb (digits_value text) most) h.0 in
    let d = and_parts (leb 1 (length text)) (list_all is_digit text && leads text) k.0 in
    let l = and_parts (list_all is_digit text) (leads text) d.1 in
    let le : digits_value text ≤ most = leb-true (digits_value text) most k.1 in
    let some : 1 ≤ length text = leb-true 1 (length text) d.0 in
    let fits : value_on 0 text < 2 ^ 64 = omega (arith, le, low) in
    let is : decimal (digits_value text) ≡ text = decimal-digits_value own text l.0 (omega (arith, some)) (no_zero (length text) (get_or text 0 0) l.1) fits in
    (sym is ∙ ap decimal h.1, subst (λ (v : ℕ). v ≤ most) h.1 le)

leads_zero : (n : ℕ) → n ≡ 0 → leads (decimal n) ≡ true
leads_zero n e = ap (λ (m : ℕ). leads (decimal m)) e ∙ ap leads (decimal_digit 0 (omega arith))

leads_more : (k c : ℕ) → 48 < c → (eqb k 1 || not (eqb c 48)) ≡ true
leads_more k c h = grind (arith, nat_tests)

no_one : (n : ℕ) → leb 1 n ≡ false → n ≡ 0
no_one n h = grind (arith, nat_tests)

leads_by : (n : ℕ) → n < 2 ^ 64 → (b : Bool) → leb 1 n ≡ b → leads (decimal n) ≡ true
leads_by n low true h = leads_more (length (decimal n)) (get_or (decimal n) 0 0) (first_decimal n (omega (arith, leb-true 1 n h)) low)
leads_by n low false h = leads_zero n (no_one n h)

pub number_is : (most n : ℕ) → n ≤ most → most < 2 ^ 64 → number most (decimal n) ≡ Some n
unfolding number
number_is most n le low =
    let small : n < 2 ^ 64 = omega (arith, le, low) in
    let v : digits_value (decimal n) ≡ n = digits_value-decimal own n small in
    let some : leb 1 (length (decimal n)) ≡ true = le-leb 1 (length (decimal n)) (omega (arith, decimal_nonempty n small)) in
    let lead = leads_by n small (leb 1 n) refl in
    let plain : is_decimal (decimal n) ≡ true = and_both (leb 1 (length (decimal n))) (list_all is_digit (decimal n) && leads (decimal n)) some (and_both (list_all is_digit (decimal n)) (leads (decimal n)) (digits_are n small) lead) in
    let within : leb (digits_value (decimal n)) most ≡ true = le-leb (digits_value (decimal n)) most (subst (λ (m : ℕ). m ≤ most) (sym v) le) in
    ap (λ (b : Bool). cond b (Some (digits_value (decimal n))) None) (and_both (is_decimal (decimal n)) (leb (digits_value (decimal n)) most) plain within) ∙ ap (λ (m : ℕ). Some m) v

-- ---- numbers behind a front, up to the line's end

pub counted_means : (front : List ℕ) (most : ℕ) (line : List ℕ) (n : ℕ) → most < 2 ^ 64 → counted_in front most line ≡ Some n → (line ≡ front ++ (decimal n ++ 10 ∷ [])) × (n ≤ most)
unfolding counted_in
counted_means front most line n low e =
    let t = found (and_then (behind front line) unended) (number most) n e in
    let u = found (behind front line) unended t.value t.is in
    let k = number_means most t.value n low t.rest in
    (behind_means front line u.value u.is ∙ ap (λ (x : List ℕ). front ++ x) (unended_means u.value t.value u.rest ∙ ap (λ (x : List ℕ). x ++ 10 ∷ []) k.0), k.1)

pub counted_is : (front : List ℕ) (most n : ℕ) → n ≤ most → most < 2 ^ 64 → counted_in front most (front ++ (decimal n ++ 10 ∷ [])) ≡ Some n
unfolding counted_in
counted_is front most n le low =
    ap (λ (o : Option (List ℕ)). and_then (and_then o unended) (number most)) (behind_is front (decimal n ++ 10 ∷ []))
    ∙ ap (λ (o : Option (List ℕ)). and_then o (number most)) (unended_is (decimal n))
    ∙ number_is most n le low

pub counted_none : (front : List ℕ) (most : ℕ) (line : List ℕ) → ((rest : List ℕ) → line ≡ front ++ rest → ⊥) → counted_in front most line ≡ None
unfolding counted_in
counted_none front most line h = ap (λ (o : Option (List ℕ)). and_then (and_then o unended) (number most)) (behind_none front line h)

-- ---- signed numbers

pub signed_low : (n : ℕ) → n ≤ 32767 → signed_text n ≡ decimal n
signed_low n h = let t : ltb n 32768 ≡ true = grind (arith, nat_tests) in rw t refl

pub signed_high : (n k : ℕ) → n + k ≡ 65536 → k ≤ 32768 → signed_text n ≡ 45 ∷ decimal k
signed_high n k e h =
    let t : ltb n 32768 ≡ false = grind (arith, nat_tests) in
    let r : 65536 - n ≡ k = omega (arith, e) in
    rw (t, r) refl

below_means : (o : Option ℕ) (n : ℕ) → below_zero o ≡ Some n → (k : ℕ) × (o ≡ Some k) × (eqb k 0 ≡ false) × (65536 - k ≡ n)
below_means None n e = none_some e
below_means (Some k) n e = let h = plain_by (eqb k 0) (Some (65536 - k)) n e in (k, refl, h.0, some_inj h.1)

pub record IsSigned (text : List ℕ) (n : ℕ) : Type 0 where
  pub text_is : text ≡ signed_text n
  pub low : n ≤ 65535

signed_below : (text digits : List ℕ) (n k : ℕ) → text ≡ 45 ∷ digits → digits ≡ decimal k → k ≤ 32768 → eqb k 0 ≡ false → 65536 - k ≡ n → IsSigned text n
signed_below text digits n k e d le nz is =
    let some : 1 ≤ k = grind (arith, nat_tests) in
    let sum : n + k ≡ 65536 = omega (arith, le, is) in
    record {
      text_is = e ∙ ap (λ (t : List ℕ). 45 ∷ t) d ∙ sym (signed_high n k sum le);
      low = omega (arith, sum, some);
    }

signed_found : (text : List ℕ) (n : ℕ) (o : Option (List ℕ)) → behind (codes "-") text ≡ o → signed_by text o ≡ Some n → IsSigned text n
signed_found text n None f e =
    let k = number_means 32767 text n (omega arith) e in
    record { text_is = k.0 ∙ sym (signed_low n k.1); low = omega (arith, k.1) }
signed_found text n (Some digits) f e =
    let h = below_means (number 32768 digits) n e in
    let k = number_means 32768 digits h.0 (omega arith) h.1 in
    signed_below text digits n h.0 (behind_means (codes "-") text digits f) k.0 k.1 h.2 h.3

pub signed_means : (text : List ℕ) (n : ℕ) → signed_number text ≡ Some n → IsSigned text n
unfolding signed_number
signed_means text n e = signed_found text n (behind (codes "-") text) refl e

no_minus_digit : (rest : List ℕ) → list_all is_digit (45 ∷ rest) ≡ true → ⊥
no_minus_digit rest h = absurd cc

no_minus : (n : ℕ) → n < 2 ^ 64 → (rest : List ℕ) → decimal n ≡ codes "-" ++ rest → ⊥
no_minus n low rest e = no_minus_digit rest (subst (λ (t : List ℕ). list_all is_digit t ≡ true) e (digits_are n low))

signed_plain : (n : ℕ) → n ≤ 32767 → signed_number (decimal n) ≡ Some n
unfolding signed_number
signed_plain n h = ap (signed_by (decimal n)) (behind_none (codes "-") (decimal n) (no_minus n (omega (arith, h)))) ∙ number_is 32767 n h (omega arith)

below_is : (k n : ℕ) → eqb k 0 ≡ false → 65536 - k ≡ n → below_zero (Some k) ≡ Some n
below_is k n h e = rw (h, e) refl

signed_minus : (n k : ℕ) → n + k ≡ 65536 → 1 ≤ k → k ≤ 32768 → signed_number (45 ∷ decimal k) ≡ Some n
unfolding signed_number
signed_minus n k e some h =
    let nz : eqb k 0 ≡ false = grind (arith, nat_tests) in
    ap (signed_by (45 ∷ decimal k)) (behind_is (codes "-") (decimal k)) ∙ ap below_zero (number_is 32768 k h (omega arith)) ∙ below_is k n nz (omega (arith, e))

signed_is_by : (n : ℕ) → n ≤ 65535 → (b : Bool) → ltb n 32768 ≡ b → signed_number (signed_text n) ≡ Some n
signed_is_by n low true t =
    let h : n ≤ 32767 = grind (arith, nat_tests) in
    ap signed_number (signed_low n h) ∙ signed_plain n h
signed_is_by n low false t =
    let h : 32768 ≤ n = grind (arith, nat_tests) in
    let sum : n + (65536 - n) ≡ 65536 = omega (arith, low) in
    ap signed_number (signed_high n (65536 - n) sum (omega (arith, h))) ∙ signed_minus n (65536 - n) sum (omega (arith, low)) (omega (arith, h))

pub signed_is : (n : ℕ) → n ≤ 65535 → signed_number (signed_text n) ≡ Some n
signed_is n low = signed_is_by n low (ltb n 32768) refl

-- ---- words in octal digits

abbrev octal_step : ℕ → ℕ → ℕ
octal_step n c = (8 * n + (c - 48)) % 65536

step_low : (n c : ℕ) → octal_step n c < 65536
step_low n c = omega arith

fold_low : (n : ℕ) (ds : List ℕ) → n < 65536 → fold octal_step n ds < 65536
fold_low n [] h = h
fold_low n (c ∷ cs) h = fold_low (octal_step n c) cs (step_low n c)

pub octal_means : (text : List ℕ) → is_octal text ≡ true → (a : ℕ) × (text ≡ octal6 a) × (a ≤ 65535)
octal_means text h = (octal_value text, sym (same_means (octal6 (octal_value text)) text h), omega (arith, fold_low 0 text (omega arith)))

one_step : (n x m : ℕ) → 8 * n + x ≡ m → m < 65536 → octal_step n (48 + x) ≡ m
one_step n x m e h = omega (arith, e)

value_back : (a : ℕ) → a ≤ 65535 → octal_value (octal6 a) ≡ a
value_back a h =
    let g = octal_step in
    let d4 = 48 + a / 4096 % 8 in
    let d3 = 48 + a / 512 % 8 in
    let d2 = 48 + a / 64 % 8 in
    let d1 = 48 + a / 8 % 8 in
    let d0 = 48 + a / 1 % 8 in
    ap (λ (v : ℕ). g (g (g (g (g v d4) d3) d2) d1) d0) (one_step 0 (a / 32768 % 8) (a / 32768) (omega (arith, h)) (omega (arith, h)))
    ∙ ap (λ (v : ℕ). g (g (g (g v d3) d2) d1) d0) (one_step (a / 32768) (a / 4096 % 8) (a / 4096) (omega (arith, h)) (omega (arith, h)))
    ∙ ap (λ (v : ℕ). g (g (g v d2) d1) d0) (one_step (a / 4096) (a / 512 % 8) (a / 512) (omega (arith, h)) (omega (arith, h)))
    ∙ ap (λ (v : ℕ). g (g v d1) d0) (one_step (a / 512) (a / 64 % 8) (a / 64) (omega (arith, h)) (omega (arith, h)))
    ∙ ap (λ (v : ℕ). g v d0) (one_step (a / 64) (a / 8 % 8) (a / 8) (omega (arith, h)) (omega (arith, h)))
    ∙ one_step (a / 8) (a / 1 % 8) a (omega (arith, h)) (omega (arith, h))

pub octal_is : (a : ℕ) → a ≤ 65535 → is_octal (octal6 a) ≡ true
octal_is a h = same_is (octal6 (octal_value (octal6 a))) (octal6 a) (ap octal6 (value_back a h))
