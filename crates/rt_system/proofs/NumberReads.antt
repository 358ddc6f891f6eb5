-- Numbers are read as they are defined.
use Rattle.std.proofs.Common.{◌≡◌, ◌≢◌, ℕ, ◌≤◌, Bool, true, false, ◌&&◌, cond, nat_le, eqb, List, [], ◌∷◌, length, get_or, Option, Some, None, refl, sym, ap, subst, ◌∙◌, arith}
use Rattle.std.specs.List.{list_all}
use Rattle.std.proofs.lemmas.Bool.Decides.{nat_tests}
use Rattle.std.proofs.lemmas.Bool.{eqb-true}
use Rattle.rt_system.specs.Numbers.{IsDigit, digits_value, IsNumber, IsPlainNumber}
use Rattle.rt_system.specs.Reading.{is_digit, number, plain_number}
use Rattle.rt_system.proofs.Tests.{passes, none_some, not_true, all_means, all_is}

pub digit_is : (c : ℕ) → IsDigit c → is_digit c ≡ true
digit_is c h = grind (arith, nat_tests)

pub digit_means : (c : ℕ) → is_digit c ≡ true → IsDigit c
digit_means c h = grind (arith, nat_tests)

number_test : (k v most : ℕ) (digits : Bool) → (nat_le 1 k && digits && nat_le v most) ≡ true → (1 ≤ k) × (digits ≡ true) × (v ≤ most)
number_test k v most digits h = grind (arith, nat_tests)

number_passes : (k v most : ℕ) (digits : Bool) → 1 ≤ k → digits ≡ true → v ≤ most → (nat_le 1 k && digits && nat_le v most) ≡ true
number_passes k v most digits h i j = grind (arith, nat_tests)

pub number_means : (most : ℕ) (t : List ℕ) (n : ℕ) → number most t ≡ Some n → IsNumber t n × (n ≤ most)
unfolding number
number_means most t n e =
    let h = passes (nat_le 1 (length t) && list_all is_digit t && nat_le (digits_value t) most) (digits_value t) n e in
    let k = number_test (length t) (digits_value t) most (list_all is_digit t) h.0 in
    (record { some = k.0; digits = all_means is_digit IsDigit digit_means t k.1; value = h.1 }, subst (λ (v : ℕ). v ≤ most) h.1 k.2)

pub number_is : (most : ℕ) (t : List ℕ) (n : ℕ) → IsNumber t n → n ≤ most → number most t ≡ Some n
unfolding number
number_is most t n h le =
    let test = number_passes (length t) (digits_value t) most (list_all is_digit t) h.some (all_is is_digit IsDigit digit_is t h.digits) (subst (λ (v : ℕ). v ≤ most) (sym h.value) le) in
    ap (λ (b : Bool). cond b (Some (digits_value t)) None) test ∙ ap (λ (v : ℕ). Some v) h.value

pub plain_by : {A : Type 0} (b : Bool) (o : Option A) (x : A) → cond b None o ≡ Some x → (b ≡ false) × (o ≡ Some x)
plain_by true o x e = none_some e
plain_by false o x e = (refl, e)

no_zero : (c : ℕ) (cs : List ℕ) → eqb c 48 ≡ false → get_or (c ∷ cs) 0 0 ≢ 48
no_zero c cs h e = grind (arith, nat_tests)

zero_test : (c : ℕ) (cs : List ℕ) → get_or (c ∷ cs) 0 0 ≢ 48 → eqb c 48 ≡ false
zero_test c cs h = not_true (eqb c 48) (λ e. h (eqb-true c 48 e))

pub plain_means : (most : ℕ) (t : List ℕ) (n : ℕ) → plain_number most t ≡ Some n → IsPlainNumber t n × (n ≤ most)
unfolding plain_number
plain_means most [] n e = none_some e
plain_means most (c ∷ cs) n e =
    let h = plain_by (eqb c 48) (number most (c ∷ cs)) n e in
    let k = number_means most (c ∷ cs) n h.1 in
    (record { number = k.0; plain = no_zero c cs h.0 }, k.1)

pub plain_is : (most : ℕ) (t : List ℕ) (n : ℕ) → IsPlainNumber t n → n ≤ most → plain_number most t ≡ Some n
unfolding plain_number
plain_is most [] n h le = let some : 1 ≤ length {A = ℕ} [] = h.number.some in absurd (omega arith)
plain_is most (c ∷ cs) n h le = rw (zero_test c cs h.plain) (number_is most (c ∷ cs) n h.number le)
