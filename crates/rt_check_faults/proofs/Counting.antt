-- The fault that counts of several.
use Rattle.std.proofs.Common.{◌≡◌, ℕ, ◌==◌, ◌&&◌, ◌||◌, Bool, true, false, not, List, Ok, Err, arith, refl, sym, ap, ◌∙◌}
use Rattle.std.proofs.lemmas.Bool.Decides.{nat_tests}
use Rattle.std.specs.Prelude.{nat_lt, nat_le, if◌then◌else◌}
use Rattle.rt_check_faults.specs.declared.fault.CheckFault.{CheckFault}
use Rattle.rt_check_faults.proofs.Told.{real_left, real_right, or_other_fault}
use Rattle.rt_check_faults.specs.Outcomes.{Outcome, ◌>>=◌, both, after, earlier, sooner, is_before, is_unknown, or_other, item_of, number_of}

abbrev before : ℕ → ℕ → ℕ → ℕ → Bool
before i k j n = nat_lt i j || (i == j && nat_le k n)

same_before : (i k : ℕ) → before i k i k ≡ true
same_before i k = grind (arith, nat_tests)

through_before : (i k j n l m : ℕ) → before i k j n ≡ true → before j n l m ≡ true → before i k l m ≡ true
through_before i k j n l m h g = grind (arith, nat_tests)

other_before : (i k j n l m : ℕ) → before i k j n ≡ false → before i k l m ≡ true → before j n l m ≡ true
other_before i k j n l m h g = grind (arith, nat_tests)

total_before : (i k j n : ℕ) → before i k j n ≡ false → before j n i k ≡ true
total_before i k j n h = grind (arith, nat_tests)

-- the same, where each stands, or can't be known and goes behind all
abbrev order : Bool → Bool → ℕ → ℕ → ℕ → ℕ → Bool
order u v i k j n = v || (not u && before i k j n)

same_order : (u : Bool) (i k : ℕ) → order u u i k i k ≡ true
same_order true i k = refl
same_order false i k = same_before i k

through_order : (u v w : Bool) (i k j n l m : ℕ) → order u v i k j n ≡ true → order v w j n l m ≡ true → order u w i k l m ≡ true
through_order u v true i k j n l m h g = refl
through_order u true false i k j n l m h g = absurd cc
through_order true false false i k j n l m h g = absurd cc
through_order false false false i k j n l m h g = through_before i k j n l m h g

other_order : (u v w : Bool) (i k j n l m : ℕ) → order u v i k j n ≡ false → order u w i k l m ≡ true → order v w j n l m ≡ true
other_order u v true i k j n l m h g = refl
other_order true v false i k j n l m h g = absurd cc
other_order false true false i k j n l m h g = absurd cc
other_order false false false i k j n l m h g = other_before i k j n l m h g

total_order : (u v : Bool) (i k j n : ℕ) → order u v i k j n ≡ false → order v u j n i k ≡ true
total_order true v i k j n h = refl
total_order false true i k j n h = absurd cc
total_order false false i k j n h = total_before i k j n h

sooner_before_left : (f g h : CheckFault) (c : Bool) → is_before f g ≡ c → is_before f h ≡ true → is_before (if c then f else g) h ≡ true
sooner_before_left f g h true e b = b
sooner_before_left f g h false e b = other_order (is_unknown f) (is_unknown g) (is_unknown h) (item_of f) (number_of f) (item_of g) (number_of g) (item_of h) (number_of h) e b

sooner_before_right : (f g h : CheckFault) (c : Bool) → is_before f g ≡ c → is_before g h ≡ true → is_before (if c then f else g) h ≡ true
sooner_before_right f g h true e b = through_order (is_unknown f) (is_unknown g) (is_unknown h) (item_of f) (number_of f) (item_of g) (number_of g) (item_of h) (number_of h) e b
sooner_before_right f g h false e b = b

-- The outcome is a fault that counts before g, or is it.
pub record Stops {A : Type 0} (t : Outcome A) (g : CheckFault) : Type 0 where
  pub first : CheckFault
  pub is : t ≡ Err first
  pub counts : is_before first g ≡ true
  pub real : is_unknown first ≡ false

pub exactly : {A : Type 0} (t : Outcome A) (g : CheckFault) → is_unknown g ≡ false → t ≡ Err g → Stops t g
exactly t g n e = record { first = g; is = e; real = n; counts = same_order (is_unknown g) (item_of g) (number_of g) }

pub moved : {A : Type 0} (t u : Outcome A) (g : CheckFault) → t ≡ u → Stops u g → Stops t g
moved t u g e h = record { first = h.first; is = e ∙ h.is; counts = h.counts; real = h.real }

pub stops_then : {A B : Type 0} (t : Outcome A) (q : A → Outcome B) (g : CheckFault) → Stops t g → Stops (t >>= q) g
stops_then t q g h = record { first = h.first; is = rw h.is refl; counts = h.counts; real = h.real }

pub earlier_real : {A : Type 0} (f : CheckFault) (y : Outcome A) → is_unknown f ≡ false → is_unknown (earlier f y) ≡ false
earlier_real f (Ok y) n = n
earlier_real f (Err h) n = real_left f h n

earlier_before : {A : Type 0} (f g : CheckFault) (y : Outcome A) → is_before f g ≡ true → is_before (earlier f y) g ≡ true
earlier_before f g (Ok y) b = b
earlier_before f g (Err h) b = sooner_before_left f h g (is_before f h) refl b

pub stops_both_left : {A B : Type 0} (x : Outcome A) (y : Outcome B) (g : CheckFault) → Stops x g → Stops (both x y) g
stops_both_left x y g h = record { first = earlier h.first y; is = rw h.is refl; counts = earlier_before h.first g y h.counts; real = earlier_real h.first y h.real }

pub stops_both_right : {A B : Type 0} (x : Outcome A) (y : Outcome B) (g : CheckFault) → Stops y g → Stops (both x y) g
stops_both_right (Ok x) y g h = record { first = h.first; is = rw h.is refl; counts = h.counts; real = h.real }
stops_both_right (Err f) y g h = record { first = sooner f h.first; is = rw h.is refl; counts = sooner_before_right f h.first g (is_before f h.first) refl h.counts; real = real_right f h.first h.real }

pub stops_after_left : {A : Type 0} (x : Outcome (List A)) (y : Outcome A) (g : CheckFault) → Stops x g → Stops (after x y) g
stops_after_left x y g h = record { first = earlier h.first y; is = rw h.is refl; counts = earlier_before h.first g y h.counts; real = earlier_real h.first y h.real }

pub stops_after_right : {A : Type 0} (x : Outcome (List A)) (y : Outcome A) (g : CheckFault) → Stops y g → Stops (after x y) g
stops_after_right (Ok x) y g h = record { first = h.first; is = rw h.is refl; counts = h.counts; real = h.real }
stops_after_right (Err f) y g h = record { first = sooner f h.first; is = rw h.is refl; counts = sooner_before_right f h.first g (is_before f h.first) refl h.counts; real = real_right f h.first h.real }

-- a fault that counts of a fault and another counts before both
pub sooner_left_before : (f g : CheckFault) → is_before (sooner f g) f ≡ true
sooner_left_before f g = sooner_before_left f g f (is_before f g) refl (same_order (is_unknown f) (item_of f) (number_of f))

pub before_through_left : (f g h : CheckFault) → is_before f h ≡ true → is_before (sooner f g) h ≡ true
before_through_left f g h b = sooner_before_left f g h (is_before f g) refl b

pub before_through_right : (f g h : CheckFault) → is_before g h ≡ true → is_before (sooner f g) h ≡ true
before_through_right f g h b = sooner_before_right f g h (is_before f g) refl b

pub before_same : (g : CheckFault) → is_before g g ≡ true
before_same g = same_order (is_unknown g) (item_of g) (number_of g)

pub before_through : (f g h : CheckFault) → is_before f g ≡ true → is_before g h ≡ true → is_before f h ≡ true
before_through f g h = through_order (is_unknown f) (is_unknown g) (is_unknown h) (item_of f) (number_of f) (item_of g) (number_of g) (item_of h) (number_of h)

pub before_turned : (f g : CheckFault) → is_before f g ≡ false → is_before g f ≡ true
before_turned f g = total_order (is_unknown f) (is_unknown g) (item_of f) (number_of f) (item_of g) (number_of g)

pub before_neither : (f g h : CheckFault) → is_before f g ≡ false → is_before g h ≡ false → is_before f h ≡ false
before_neither f g h e d = neither (is_before f h) refl where
  neither : (b : Bool) → is_before f h ≡ b → b ≡ false
  neither false is = refl
  neither true is = absurd (let back : is_before g h ≡ true = other_order (is_unknown f) (is_unknown g) (is_unknown h) (item_of f) (number_of f) (item_of g) (number_of g) (item_of h) (number_of h) e is in cc)

-- where another may stand for what can't be known, a fault stays one
pub stops_or_other : {A B : Type 0} (other : A) (known : Bool) (q : A × Bool → Outcome B) (t : Outcome A) (g : CheckFault) → Stops t g → Stops (or_other other known t >>= q) g
stops_or_other other known q t g h = record { first = h.first; is = rw (h.is, or_other_fault other known h.first h.real) refl; counts = h.counts; real = h.real }

-- a fault that counts of two
pub stops_sooner_left : {A : Type 0} (t : Outcome A) (f g h : CheckFault) → t ≡ Err (sooner f g) → is_before f h ≡ true → is_unknown f ≡ false → Stops t h
stops_sooner_left t f g h e b n = record { first = sooner f g; is = e; counts = before_through_left f g h b; real = real_left f g n }

pub stops_sooner_right : {A : Type 0} (t : Outcome A) (f g h : CheckFault) → t ≡ Err (sooner f g) → is_before g h ≡ true → is_unknown g ≡ false → Stops t h
stops_sooner_right t f g h e b n = record { first = sooner f g; is = e; counts = before_through_right f g h b; real = real_right f g n }

-- ---- the sooner of several

pub choose_no : {A : Type 0} (b : Bool) (x y : A) → b ≡ false → (if b then x else y) ≡ y
choose_no b x y e = rw e refl

pub choose_yes : {A : Type 0} (b : Bool) (x y : A) → b ≡ true → (if b then x else y) ≡ x
choose_yes b x y e = rw e refl

pub sooner_yes : (f g : CheckFault) → is_before f g ≡ true → sooner f g ≡ f
sooner_yes f g e = choose_yes (is_before f g) f g e

pub sooner_no : (f g : CheckFault) → is_before f g ≡ false → sooner f g ≡ g
sooner_no f g e = choose_no (is_before f g) f g e

associates : (f g h : CheckFault) (p q : Bool) → is_before f g ≡ p → is_before g h ≡ q → sooner f (sooner g h) ≡ sooner (sooner f g) h
associates f g h true true e d =
    ap (sooner f) (sooner_yes g h d) ∙ sooner_yes f g e ∙ sym (ap (λ (x : CheckFault). sooner x h) (sooner_yes f g e) ∙ sooner_yes f h (before_through f g h e d))
associates f g h true false e d = ap (sooner f) (sooner_no g h d) ∙ sym (ap (λ (x : CheckFault). sooner x h) (sooner_yes f g e))
associates f g h false true e d =
    ap (sooner f) (sooner_yes g h d) ∙ sooner_no f g e ∙ sym (ap (λ (x : CheckFault). sooner x h) (sooner_no f g e) ∙ sooner_yes g h d)
associates f g h false false e d =
    ap (sooner f) (sooner_no g h d) ∙ sooner_no f h (before_neither f g h e d) ∙ sym (ap (λ (x : CheckFault). sooner x h) (sooner_no f g e) ∙ sooner_no g h d)

pub sooner_assoc : (f g h : CheckFault) → sooner f (sooner g h) ≡ sooner (sooner f g) h
sooner_assoc f g h = associates f g h (is_before f g) (is_before g h) refl refl
