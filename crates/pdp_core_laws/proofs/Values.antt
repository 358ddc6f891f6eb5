-- Words and the signed numbers that they stand for.
use Rattle.std.proofs.Common.{◌≡◌, ℕ, zero, suc, ◌+◌, ◌-◌, ◌*◌, ◌/◌, ◌%◌, ◌^◌, ◌<◌, ◌≤◌, Bool, true, false, refl, sym, ap, ◌∙◌, le_refl, inl, inr, arith}
use Rattle.std.specs.Prelude.{nat_lt, nat_le, ◌⊎◌, ◌||◌, if◌then◌else◌, ℤ, pos, negsuc, neg_ℤ, ◌+ℤ◌, ◌-ℤ◌, ◌*ℤ◌, ◌≤ℤ◌}
use Rattle.std.specs.Int.{int_div_euclid}
use Rattle.std.proofs.Math.Nat.{mul-le-mul_left, mul-le-mul_right, pow-suc, mul-one, mul-add, mul_comm, mod-eq_of_lt, mod-eq-sub-mod, div-one, div-div-eq-div-mul}
use Rattle.std.proofs.Math.IntN.{*ℤ_comm}
use Rattle.std.proofs.lemmas.Bool.{lt-ltb, le-ltb, lt-leb, le-leb, cases_lt}
use Rattle.std.proofs.lemmas.Nat.{mul-mod_second}
use Rattle.std.proofs.lemmas.Int.{ints}
use Rattle.rt_words.specs.Word.{signed_of, differ}
use Rattle.pdp_code.specs.Values.{product_of, unshifted, lefts, rights}
use Rattle.pdp_core_laws.specs.Numbers.{signed_in, signed_long}
use Rattle.pdp_code.proofs.Shifts.{rights_below, lefts_below}

pub low_in : (l h x : ℕ) → x < h → signed_in l h x ≡ pos x
low_in l h x p = rw (lt-ltb x h p) refl

pub high_in : (l h x : ℕ) → h ≤ x → signed_in l h x ≡ pos x -ℤ pos l
high_in l h x p = rw (le-ltb x h p) refl

below_zero : (l x : ℕ) → x < l → pos x -ℤ pos l ≡ negsuc (l - suc x)
below_zero l x p = omega (arith, ints)

pub high_neg : (l h x : ℕ) → h ≤ x → x < l → signed_in l h x ≡ negsuc (l - suc x)
high_neg l h x p q = high_in l h x p ∙ below_zero l x q

-- ---- products

-- a number of 32 bits and more, by the signed number that it is up to multiples of 2 ^ 32
long_is : (n t : ℕ) (z : ℤ) → pos n ≡ z +ℤ pos (4294967296 * t) → negsuc 2147483647 ≤ℤ z → z ≤ℤ pos 2147483647 → signed_long (n % 4294967296) ≡ z
long_is n t z e low high = by (cases_lt (n % 4294967296) 2147483648)
  where
    by : (n % 4294967296 < 2147483648) ⊎ (2147483648 ≤ n % 4294967296) → signed_long (n % 4294967296) ≡ z
    by (inl q) = low_in 4294967296 2147483648 (n % 4294967296) q ∙ omega (arith, ints, e, low, high)
    by (inr q) = high_in 4294967296 2147483648 (n % 4294967296) q ∙ omega (arith, ints, e, low, high)

-- a negative word by its size
negative_word : (a j : ℕ) → 32768 ≤ a → a + suc j ≡ 65536 → signed_of a ≡ negsuc j
negative_word a j p e = high_neg 65536 32768 a p (omega arith) ∙ ap negsuc (omega arith)

sizes : (a b m : ℕ) → b + suc m ≡ 65536 → a * b + a * suc m ≡ a * 65536
sizes a b m e = sym (mul-add a b (suc m)) ∙ ap (λ n. a * n) e

low_low : (a b : ℕ) → a < 32768 → b < 32768 → signed_long (product_of a b) ≡ signed_of a *ℤ signed_of b
low_low a b p q =
    let m : a * b ≤ a * 32767 = mul-le-mul_left a (omega arith) in
    rw (lt-ltb a 32768 p, lt-ltb b 32768 q) (long_is (a * b) 0 (pos (a * b)) (omega (arith, ints, m)) (omega (arith, ints, m)) (omega (arith, ints, m)))

low_high : (a b m : ℕ) → a < 32768 → 32768 ≤ b → b + suc m ≡ 65536 → signed_long (product_of a b) ≡ signed_of a *ℤ signed_of b
low_high a b m p q e =
    let s = sizes a b m e in
    let k : a * suc m ≤ 32768 * suc m = mul-le-mul_right (suc m) (omega arith) in
    rw (negative_word b m q e, lt-ltb a 32768 p, le-ltb b 32768 q)
    (long_is (a * (b + 4294901760)) a (neg_ℤ (pos (a * suc m))) (omega (arith, ints, s)) (omega (arith, ints, k)) (omega (arith, ints, k)))

high_high : (a b j m : ℕ) → 32768 ≤ a → 32768 ≤ b → a + suc j ≡ 65536 → b + suc m ≡ 65536 → signed_long (product_of a b) ≡ signed_of a *ℤ signed_of b
high_high a b j m p q f e =
    let s = sizes a b m e in
    let t : suc m * a + suc m * suc j ≡ suc m * 65536 = sizes (suc m) a j f in
    let k : suc j * suc m ≤ 32768 * suc m = mul-le-mul_right (suc m) (omega arith) in
    rw (negative_word a j p f, negative_word b m q e, le-ltb a 32768 p, le-ltb b 32768 q)
    (long_is ((a + 4294901760) * (b + 4294901760)) (a + b + 4294836224) (pos (suc j * suc m)) (omega (arith, ints, s, t)) (omega (arith, ints, k)) (omega (arith, ints, k)))

product_comm : (a b : ℕ) → product_of a b ≡ product_of b a
product_comm a b = ap (λ n. n % 4294967296) (mul_comm (if nat_lt a 32768 then a else a + 4294901760) (if nat_lt b 32768 then b else b + 4294901760))

pub product_signed : (a b : ℕ) → a < 65536 → b < 65536 → signed_long (product_of a b) ≡ signed_of a *ℤ signed_of b
product_signed a b h k = by (cases_lt a 32768) (cases_lt b 32768)
  where
    by : (a < 32768) ⊎ (32768 ≤ a) → (b < 32768) ⊎ (32768 ≤ b) → signed_long (product_of a b) ≡ signed_of a *ℤ signed_of b
    by (inl p) (inl q) = low_low a b p q
    by (inl p) (inr q) = low_high a b (65535 - b) p q (omega arith)
    by (inr p) (inl q) = ap signed_long (product_comm a b) ∙ low_high b a (65535 - a) q p (omega arith) ∙ *ℤ_comm (signed_of b) (signed_of a)
    by (inr p) (inr q) = high_high a b (65535 - a) (65535 - b) p q (omega arith) (omega arith)

-- ---- shifts to the left

pub left_value : (l h x n : ℕ) → 0 < l → x < l → (lefts n l h (unshifted x)).value ≡ (x * 2 ^ n) % l
left_value l h x zero p q = sym (ap (λ v. v % l) (mul-one x) ∙ mod-eq_of_lt q)
left_value l h x (suc n) p q =
    let e : 2 * (x * 2 ^ n) ≡ x * 2 ^ suc n = rw (pow-suc 2 n) (omega arith) in
    ap (λ v. (2 * v) % l) (left_value l h x n p q) ∙ mul-mod_second 2 (x * 2 ^ n) l ∙ ap (λ v. v % l) e

-- ---- shifts to the right

right_half : (h x : ℕ) → x < h + h → signed_in (h + h) h (x / 2 + (if nat_le h x then h else 0)) ≡ int_div_euclid (signed_in (h + h) h x) (pos 2)
right_half h x p = by (cases_lt x h)
  where
    by : (x < h) ⊎ (h ≤ x) → signed_in (h + h) h (x / 2 + (if nat_le h x then h else 0)) ≡ int_div_euclid (signed_in (h + h) h x) (pos 2)
    by (inl q) =
        rw (lt-leb h x q, low_in (h + h) h x q) (low_in (h + h) h (x / 2 + 0) (omega arith) ∙ ap pos (omega arith))
    by (inr q) =
        rw (le-leb h x q, high_neg (h + h) h x q p) (high_neg (h + h) h (x / 2 + h) (omega arith) (omega arith) ∙ ap negsuc (omega arith))

halves : (z : ℤ) (n : ℕ) → int_div_euclid (int_div_euclid z (pos (2 ^ n))) (pos 2) ≡ int_div_euclid z (pos (2 ^ suc n))
halves (pos a) n = ap pos (div-div-eq-div-mul a (2 ^ n) 2 ∙ ap (λ m. a / m) (sym (pow-suc 2 n)))
halves (negsuc a) n = ap negsuc (div-div-eq-div-mul a (2 ^ n) 2 ∙ ap (λ m. a / m) (sym (pow-suc 2 n)))

whole : (z : ℤ) → z ≡ int_div_euclid z (pos 1)
whole (pos a) = ap pos (sym (div-one a))
whole (negsuc a) = ap negsuc (sym (div-one a))

pub right_value : (h x n : ℕ) → x < h + h → signed_in (h + h) h (rights n h (unshifted x)).value ≡ int_div_euclid (signed_in (h + h) h x) (pos (2 ^ n))
right_value h x zero p = whole (signed_in (h + h) h x)
right_value h x (suc n) p =
    let b : (rights n h (unshifted x)).value < h + h = rights_below n (h + h) h (unshifted x) (le_refl (h + h)) p in
    right_half h (rights n h (unshifted x)).value b
    ∙ ap (λ z. int_div_euclid z (pos 2)) (right_value h x n p)
    ∙ halves (signed_in (h + h) h x) n

-- ---- shifts to the left where the sign stays

double_neg : (k : ℕ) → pos 2 *ℤ neg_ℤ (pos k) ≡ neg_ℤ (pos (2 * k))
double_neg zero = refl
double_neg (suc k) = refl

neg_of : (k m : ℕ) → k ≡ suc m → neg_ℤ (pos k) ≡ negsuc m
neg_of k m e = ap (λ v. neg_ℤ (pos v)) e

twice : (h x : ℕ) → x < h + h → differ (nat_le h ((2 * x) % (h + h))) (nat_le h x) ≡ false → signed_in (h + h) h ((2 * x) % (h + h)) ≡ pos 2 *ℤ signed_in (h + h) h x
twice h x p e = by (cases_lt x h) (cases_lt ((2 * x) % (h + h)) h)
  where
    by : (x < h) ⊎ (h ≤ x) → ((2 * x) % (h + h) < h) ⊎ (h ≤ (2 * x) % (h + h)) → signed_in (h + h) h ((2 * x) % (h + h)) ≡ pos 2 *ℤ signed_in (h + h) h x
    by (inl q) (inl r) =
        let once : (2 * x) % (h + h) ≡ 2 * x = mod-eq_of_lt (omega arith) in
        rw (low_in (h + h) h x q, low_in (h + h) h ((2 * x) % (h + h)) r) (ap pos once)
    by (inl q) (inr r) = let f = rw (lt-leb h x q, le-leb h ((2 * x) % (h + h)) r) at e in cc
    by (inr q) (inl r) = let f = rw (le-leb h x q, lt-leb h ((2 * x) % (h + h)) r) at e in cc
    by (inr q) (inr r) =
        let less : 2 * x - (h + h) < h + h = omega arith in
        let fits : h + h ≤ 2 * x = omega arith in
        let once : (2 * x) % (h + h) ≡ 2 * x - (h + h) = mod-eq-sub-mod fits ∙ mod-eq_of_lt less in
        high_neg (h + h) h ((2 * x) % (h + h)) r (omega (arith, once))
        ∙ sym (neg_of (2 * suc (h + h - suc x)) (h + h - suc ((2 * x) % (h + h))) (omega (arith, once)))
        ∙ ap (λ z. pos 2 *ℤ z) (sym (high_neg (h + h) h x q p))

doubled_power : (z : ℤ) (n : ℕ) → pos 2 *ℤ (z *ℤ pos (2 ^ n)) ≡ z *ℤ pos (2 ^ suc n)
doubled_power (pos a) n = ap pos (rw (pow-suc 2 n) (omega arith))
doubled_power (negsuc a) n =
    let e : 2 * (suc a * 2 ^ n) ≡ suc a * 2 ^ suc n = rw (pow-suc 2 n) (omega arith) in
    double_neg (suc a * 2 ^ n) ∙ ap (λ k. neg_ℤ (pos k)) e

or_false : (a b : Bool) → (a || b) ≡ false → (a ≡ false) × (b ≡ false)
or_false true b e = cc
or_false false b e = (refl, e)

times_one : (z : ℤ) → z ≡ z *ℤ pos 1
times_one (pos a) = ap pos (sym (mul-one a))
times_one (negsuc a) = sym (neg_of (suc a * 1) a (mul-one (suc a)))

pub left_signed : (h x n : ℕ) → 0 < h → x < h + h → (lefts n (h + h) h (unshifted x)).turned ≡ false → signed_in (h + h) h (lefts n (h + h) h (unshifted x)).value ≡ signed_in (h + h) h x *ℤ pos (2 ^ n)
left_signed h x zero o p e = times_one (signed_in (h + h) h x)
left_signed h x (suc n) o p e =
    let s = lefts n (h + h) h (unshifted x) in
    let both = or_false s.turned (differ (nat_le h ((2 * s.value) % (h + h))) (nat_le h s.value)) e in
    let b : s.value < h + h = lefts_below n (h + h) h (unshifted x) (omega arith) p in
    twice h s.value b both.1 ∙ ap (λ z. pos 2 *ℤ z) (left_signed h x n o p both.0) ∙ doubled_power (signed_in (h + h) h x) n
