-- What code weighs: its words and its unmarked instructions, with something to spare.
use Rattle.std.proofs.Common.{◌≡◌, ℕ, ◌+◌, ◌*◌, ◌≤◌, List, [], ◌∷◌, ◌++◌, map, sum, sym, zero-add, arith}
use Rattle.std.proofs.lemmas.List.Sums.{sum-map, sum_by-cons}
use Rattle.rt_icode.specs.declared.ins.Ins.{Ins}
use Rattle.rt_icode.specs.Weights.{words_of, unmarked_of}

pub total_cons : (f : Ins → ℕ) (i : Ins) (is : List Ins) → sum (map f (i ∷ is)) ≡ f i + sum (map f is)
total_cons f i is =
    let a = sum-map f (i ∷ is) in
    let b = sum_by-cons f i is in
    let c = sum-map f is in
    omega arith

pub total_append : (f : Ins → ℕ) (xs ys : List Ins) → sum (map f (xs ++ ys)) ≡ sum (map f xs) + sum (map f ys)
total_append f [] ys = sym (zero-add (sum (map f ys)))
total_append f (x ∷ xs) ys = omega (arith, total_cons f x (xs ++ ys), total_append f xs ys, total_cons f x xs)

abbrev pub words : List Ins → ℕ
words is = sum (map words_of is)

abbrev pub unmarked : List Ins → ℕ
unmarked is = sum (map unmarked_of is)

-- So many words, and twice as many unmarked instructions, with so many to spare.
pub record Light (is : List Ins) (spare most : ℕ) : Type 0 where
  pub words : words is + spare ≤ most
  pub made : unmarked is + spare ≤ 2 * most

pub light_none : Light [] 0 0
light_none = record { words = omega arith; made = omega arith }

pub light_one : (i : Ins) (spare most : ℕ) → words_of i + spare ≤ most → unmarked_of i + spare ≤ 2 * most → Light (i ∷ []) spare most
light_one i spare most h k = record { words = omega (arith, h, total_cons words_of i []); made = omega (arith, k, total_cons unmarked_of i []) }

pub light_both : (xs ys : List Ins) (s t a b n m : ℕ) → Light xs s a → Light ys t b → n ≤ s + t → a + b ≤ m → Light (xs ++ ys) n m
light_both xs ys s t a b n m h k e f = record {
  words = omega (arith, h.words, k.words, total_append words_of xs ys);
  made = omega (arith, h.made, k.made, total_append unmarked_of xs ys);
}

pub light_behind : (i : Ins) (ys : List Ins) (t b n m : ℕ) → Light ys t b → words_of i + n + b ≤ m + t → unmarked_of i + n + 2 * b ≤ 2 * m + t → Light (i ∷ ys) n m
light_behind i ys t b n m k e f = record {
  words = omega (arith, k.words, total_cons words_of i ys);
  made = omega (arith, k.made, total_cons unmarked_of i ys);
}

pub light_more : (xs : List Ins) (s a n m : ℕ) → Light xs s a → n ≤ s → a ≤ m → Light xs n m
light_more xs s a n m h e f = record { words = omega (arith, h.words); made = omega (arith, h.made) }
