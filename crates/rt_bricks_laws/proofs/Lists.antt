-- Counts of lists to which one more comes.
use Rattle.std.proofs.Common.{◌≡◌, ℕ, ◌+◌, ◌≤◌, List, [], ◌∷◌, length, map, refl, arith}
use Rattle.rt_grammar.specs.Parts.{push}
use Rattle.rt_bricks_laws.specs.Counts.{sum, further, listed}

module _ {A : Type 0} (f : A → ℕ) where
  pub sum_push : (xs : List A) (x : A) → sum (map f (push xs x)) ≡ sum (map f xs) + f x
  sum_push [] x = omega arith
  sum_push (y ∷ ys) x = let e = sum_push ys x in omega arith

  further_push : (xs : List A) (x : A) → further (map f (push xs x)) ≡ further (map f xs) + (1 + f x)
  further_push [] x = omega arith
  further_push (y ∷ ys) x = let e = further_push ys x in omega arith

  pub listed_push : (xs : List A) (x : A) → listed (map f (push xs x)) ≤ listed (map f xs) + (1 + f x)
  listed_push [] x = omega arith
  listed_push (y ∷ ys) x = let e = further_push ys x in omega arith

  -- the last one is so many more
  pub last_more : (xs : List A) (x y : A) (n : ℕ) → f y ≤ f x + n → listed (map f (push xs y)) ≤ listed (map f (push xs x)) + n
  last_more [] x y n h = omega arith
  last_more (z ∷ zs) x y n h = let e = further_push zs x in let g = further_push zs y in omega arith

pub length_push : {A : Type 0} (xs : List A) (x : A) → length (push xs x) ≡ length xs + 1
length_push [] x = refl
length_push (y ∷ ys) x = let e = length_push ys x in omega arith
