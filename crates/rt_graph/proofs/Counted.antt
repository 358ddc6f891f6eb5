-- Needs as 32 bits count them, and the greatest of some.
use Rattle.std.proofs.Common.{◌≡◌, ℕ, ◌+◌, ◌≤◌, ◌⊎◌, inl, inr, min, ltb, if◌then◌else◌, refl, sym, ap, ◌∙◌, arith}
use Rattle.std.proofs.lemmas.Bool.Decides.{nat_tests}
use Rattle.rt_graph.specs.Needs.{IsGreatest, counted}
use Rattle.rt_graph.specs.Sums.{greater}

pub counted_sum : (k a b : ℕ) → counted a ≡ counted b → counted (k + a) ≡ counted (k + b)
counted_sum k a b e = by k a b e
  where
    by : (k a b : ℕ) → min a 4294967295 ≡ min b 4294967295 → min (k + a) 4294967295 ≡ min (k + b) 4294967295
    by k a b e = omega arith

pub counted_twice : (a : ℕ) → counted (counted a) ≡ counted a
counted_twice a = by a
  where
    by : (a : ℕ) → min (min a 4294967295) 4294967295 ≡ min a 4294967295
    by a = omega arith

greater_is : (a b : ℕ) → (a ≤ greater a b) × (b ≤ greater a b) × ((greater a b ≡ a) ⊎ (greater a b ≡ b))
greater_is a b = (left a b, right a b, either a b)
  where
    left : (a b : ℕ) → a ≤ (if ltb a b then b else a)
    left a b = grind (arith, nat_tests)

    right : (a b : ℕ) → b ≤ (if ltb a b then b else a)
    right a b = grind (arith, nat_tests)

    either : (a b : ℕ) → ((if ltb a b then b else a) ≡ a) ⊎ ((if ltb a b then b else a) ≡ b)
    either a b = grind (arith, nat_tests)

pub greater_left : (a b : ℕ) → a ≤ greater a b
greater_left a b = (greater_is a b).0

pub greater_right : (a b : ℕ) → b ≤ greater a b
greater_right a b = (greater_is a b).1

pub greater_either : (a b : ℕ) → (greater a b ≡ a) ⊎ (greater a b ≡ b)
greater_either a b = (greater_is a b).2

pub counted_greater : (a b c d : ℕ) → counted a ≡ counted c → counted b ≡ counted d → counted (greater a b) ≡ counted (greater c d)
counted_greater a b c d e f = by (greater a b) (greater c d) (greater_left a b) (greater_right a b) (greater_either a b) (greater_left c d) (greater_right c d) (greater_either c d) e f
  where
    by : (x y : ℕ) → a ≤ x → b ≤ x → (x ≡ a) ⊎ (x ≡ b) → c ≤ y → d ≤ y → (y ≡ c) ⊎ (y ≡ d) → min a 4294967295 ≡ min c 4294967295 → min b 4294967295 ≡ min d 4294967295 → min x 4294967295 ≡ min y 4294967295
    by x y ax bx (inl p) cy dy (inl q) e f = omega arith
    by x y ax bx (inl p) cy dy (inr q) e f = omega arith
    by x y ax bx (inr p) cy dy (inl q) e f = omega arith
    by x y ax bx (inr p) cy dy (inr q) e f = omega arith

pub greater_counted : (a b : ℕ) → greater (counted a) (counted b) ≡ counted (greater a b)
greater_counted a b = by (greater (counted a) (counted b)) (greater a b) (greater_left (counted a) (counted b)) (greater_right (counted a) (counted b)) (greater_either (counted a) (counted b)) (greater_left a b) (greater_right a b) (greater_either a b)
  where
    by : (x y : ℕ) → min a 4294967295 ≤ x → min b 4294967295 ≤ x → (x ≡ min a 4294967295) ⊎ (x ≡ min b 4294967295) → a ≤ y → b ≤ y → (y ≡ a) ⊎ (y ≡ b) → x ≡ min y 4294967295
    by x y ax bx (inl p) cy dy (inl q) = omega arith
    by x y ax bx (inl p) cy dy (inr q) = omega arith
    by x y ax bx (inr p) cy dy (inl q) = omega arith
    by x y ax bx (inr p) cy dy (inr q) = omega arith

-- ---- the greatest of some

module _ {A : Type 0} where
  pub one_greatest : (Among : A → Type 0) (number : A → ℕ) (m n : ℕ) → IsGreatest Among number m → IsGreatest Among number n → m ≡ n
  one_greatest Among number m n g h = by (le g h) (le h g)
    where
      le : {i j : ℕ} → IsGreatest Among number i → IsGreatest Among number j → i ≤ j
      le {i = i} {j = j} p q = elim p.had [ inl e ↦ omega arith | inr f ↦ (let k = q.most f.0 f.1 in let e = f.2 in omega arith) ]

      by : m ≤ n → n ≤ m → m ≡ n
      by a b = omega arith

  pub none_greatest : (Among : A → Type 0) (number : A → ℕ) → ((a : A) → Among a → ⊥) → IsGreatest Among number 0
  none_greatest Among number none = record { most = λ a h. absurd (none a h); had = inl refl }

  pub single_greatest : (Among : A → Type 0) (number : A → ℕ) (a : A) → Among a → ((b : A) → Among b → a ≡ b) → IsGreatest Among number (number a)
  single_greatest Among number a h one = record { most = λ b k. (let e : number a ≡ number b = ap number (one b k) in omega arith); had = inr (a, h, refl) }

  pub same_greatest : (Among Others : A → Type 0) (number other : A → ℕ) (n : ℕ) → ((a : A) → Others a → Among a) → ((a : A) → Among a → Others a) → ((a : A) → Others a → number a ≡ other a) → IsGreatest Among number n → IsGreatest Others other n
  same_greatest Among Others number other n to from same g = record {
    most = λ a h. (let m = g.most a (to a h) in let e = same a h in omega arith);
    had = elim g.had [ inl e ↦ inl e | inr f ↦ inr (f.0, from f.0 f.1, sym (same f.0 (from f.0 f.1)) ∙ f.2) ];
  }

  -- one more
  pub more_greatest : (Among Others : A → Type 0) (number : A → ℕ) (n : ℕ) (a : A) → ((b : A) → Others b → Among b ⊎ (b ≡ a)) → ((b : A) → Among b → Others b) → Others a → IsGreatest Among number n → IsGreatest Others number (greater n (number a))
  more_greatest Among Others number n a from to here g = record {
    most = λ b h. elim (from b h) [
      | inl k ↦ (let m = g.most b k in let l = greater_left n (number a) in omega arith)
      | inr e ↦ (let f : number b ≡ number a = ap number e in let l = greater_right n (number a) in omega arith)
    ];
    had = elim (greater_either n (number a)) [
      | inr e ↦ inr (a, here, sym e)
      | inl e ↦ elim g.had [ inl z ↦ inl (e ∙ z) | inr f ↦ inr (f.0, to f.0 f.1, f.2 ∙ sym e) ]
    ];
  }
