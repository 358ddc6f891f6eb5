-- Lists that are one.
use Rattle.std.proofs.Common.{◌≡◌, ℕ, suc, List, [], ◌∷◌, length, map, Some, refl, arith, slice_get}

pub some_is : {A : Type 0} (x y : A) → Some x ≡ Some y → x ≡ y
some_is x y e = cc

pub cons_is : {A : Type 0} (x y : A) (xs ys : List A) → x ≡ y → xs ≡ ys → x ∷ xs ≡ y ∷ ys
cons_is x y xs ys e f = cc

-- lists of one length that have the same at each place
pub same_lists : {A : Type 0} (xs ys : List A) → length xs ≡ length ys → ((k : ℕ) (x y : A) → slice_get xs k ≡ Some x → slice_get ys k ≡ Some y → x ≡ y) → xs ≡ ys
same_lists [] [] e h = refl
same_lists [] (y ∷ ys) e h = absurd (omega arith)
same_lists (x ∷ xs) [] e h = absurd (omega arith)
same_lists (x ∷ xs) (y ∷ ys) e h = cons_is x y xs ys (h 0 x y refl refl) (same_lists xs ys (omega arith) (λ k. h (suc k)))

pub same_somes : {A : Type 0} (xs ys : List A) → map (λ x. Some x) xs ≡ map (λ y. Some y) ys → xs ≡ ys
same_somes [] [] e = refl
same_somes [] (y ∷ ys) e = absurd cc
same_somes (x ∷ xs) [] e = absurd cc
same_somes (x ∷ xs) (y ∷ ys) e = cons_is x y xs ys (cc) (same_somes xs ys (cc))
