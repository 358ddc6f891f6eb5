-- Marks of numbers, one after the other.
use Rattle.std.proofs.Common.{◌≡◌, ℕ, ◌+◌, ◌<◌, Bool, List, [], ◌∷◌, ◌++◌, length, map, drop, get_or, Option, Some, None, Result, Ok, Err, OnOk, refl, sym, ap, ◌∙◌, add-one, drop-cons}
use Rattle.rt_modes.specs.FullMode.{joined}
use Rattle.rt_tree_nodes.specs.Scopes.{with}
use Rattle.rt_compile.specs.Marks.{marked, all_marked}

-- what is left to be marked, where some are
then_by : (ys : List ℕ) (o : Option (List Bool)) (b c : List Bool) → o ≡ Some b → all_marked ys b ≡ Some c → with o (all_marked ys) ≡ Some c
then_by ys o b c e h = ap (λ (p : Option (List Bool)). with p (all_marked ys)) e ∙ h

with_twice : (o : Option (List Bool)) (xs ys : List ℕ) → ((ms : List Bool) → all_marked (xs ++ ys) ms ≡ with (all_marked xs ms) (all_marked ys)) → with o (all_marked (xs ++ ys)) ≡ with (with o (all_marked xs)) (all_marked ys)
with_twice None xs ys h = refl
with_twice (Some ms) xs ys h = h ms

pub appended : (xs ys : List ℕ) (ms : List Bool) → all_marked (xs ++ ys) ms ≡ with (all_marked xs ms) (all_marked ys)
appended [] ys ms = refl
appended (x ∷ xs) ys ms = with_twice (marked x ms) xs ys (appended xs ys)

-- some numbers, then others
pub two : (xs ys : List ℕ) (a b c : List Bool) → all_marked xs a ≡ Some b → all_marked ys b ≡ Some c → all_marked (xs ++ ys) a ≡ Some c
two xs ys a b c e h = appended xs ys a ∙ then_by ys (all_marked xs a) b c e h

-- one number alone
pub alone : (k : ℕ) (a b : List Bool) → marked k a ≡ Some b → all_marked (k ∷ []) a ≡ Some b
alone k a b e = ap (λ (p : Option (List Bool)). with p (all_marked [])) e

-- what is left to be marked once some are
pub left_over : (xs ys : List ℕ) (a b : List Bool) → all_marked xs a ≡ Some b → all_marked ys b ≡ all_marked (xs ++ ys) a
left_over xs ys a b e = sym (appended xs ys a ∙ ap (λ (p : Option (List Bool)). with p (all_marked ys)) e)

-- some numbers, then others, where there are marks for these too
pub then_ok : {A E : Type 0} (r : Result A E) (xs ys : List ℕ) (a b c : List Bool) → all_marked xs a ≡ Some b → OnOk r (all_marked ys b ≡ Some c) → OnOk r (all_marked (xs ++ ys) a ≡ Some c)
then_ok (Ok x) xs ys a b c e h = two xs ys a b c e h
then_ok (Err x) xs ys a b c e h = tt

pub drop_next : {A : Type 0} (xs : List A) (i : ℕ) (x : A) → i < length xs → x ≡ get_or xs i x → drop i xs ≡ x ∷ drop (i + 1) xs
drop_next xs i x h e = rw (add-one, drop-cons xs i x, ← e) refl

-- some lists of numbers, one after the other: once the marks of one more are there, those of the rest are left
pub one_more : {A : Type 0} (f : A → List ℕ) (xs : List A) (k : ℕ) (x : A) (a b : List Bool) → k < length xs → x ≡ get_or xs k x → all_marked (f x) a ≡ Some b
    → all_marked (joined (map f (drop (k + 1) xs))) b ≡ all_marked (joined (map f (drop k xs))) a
one_more f xs k x a b h e m =
    left_over (f x) (joined (map f (drop (k + 1) xs))) a b m ∙ ap (λ ys. all_marked (joined (map f ys)) a) (sym (drop_next xs k x h e))
