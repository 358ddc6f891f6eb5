-- Tests of lists to which one more comes.
use Rattle.std.proofs.Common.{◌≡◌, ℕ, zero, suc, ◌≤◌, Bool, true, false, ◌&&◌, List, [], ◌∷◌, length, map, refl, arith}
use Rattle.rt_grammar.specs.Parts.{push}
use Rattle.rt_syntax_exprs.specs.Joins.{all_true}
use Rattle.rt_bricks_laws.specs.Bodies.{all}

pub both : (a b : Bool) → a ≡ true → b ≡ true → a && b ≡ true
both a b e h = rw (e, h) refl

pub left_of : (a b : Bool) → a && b ≡ true → a ≡ true
left_of true b e = refl
left_of false b e = e

pub right_of : (a b : Bool) → a && b ≡ true → b ≡ true
right_of true b e = e
right_of false b e = absurd cc

module _ {A : Type 0} (f : A → Bool) where
  pub all_push : (xs : List A) (x : A) → all (map f xs) ≡ true → f x ≡ true → all (map f (push xs x)) ≡ true
  all_push [] x h k = both (f x) true k refl
  all_push (y ∷ ys) x h k = both (f y) (all (map f (push ys x))) (left_of (f y) (all (map f ys)) h) (all_push ys x (right_of (f y) (all (map f ys)) h) k)

  pub all_true_push : (xs : List A) (x : A) → all_true (map f xs) ≡ true → f x ≡ true → all_true (map f (push xs x)) ≡ true
  all_true_push [] x h k = both (f x) true k refl
  all_true_push (y ∷ ys) x h k = both (f y) (all_true (map f (push ys x))) (left_of (f y) (all_true (map f ys)) h) (all_true_push ys x (right_of (f y) (all_true (map f ys)) h) k)

  pub more_push : (n : ℕ) (xs : List A) (x : A) → n ≤ length (map f xs) → n ≤ length (map f (push xs x))
  more_push n [] x h = omega arith
  more_push zero (y ∷ ys) x h = omega arith
  more_push (suc n) (y ∷ ys) x h = let g = more_push n ys x (omega arith) in omega arith
