-- The front of a list whose bytes pass a test, and what it leaves.
use Rattle.std.proofs.Common.{◌≡◌, ℕ, suc, ◌+◌, ◌-◌, Bool, true, false, cond, eqb, List, [], ◌∷◌, ◌++◌, length, take, drop, refl, sym, ap, subst, ◌∙◌, arith, length-append, append_assoc, length-drop}
use Rattle.std.specs.Prelude.{take_while}
use Rattle.std.specs.List.{prefix_len}
use Rattle.std.proofs.lemmas.Bool.{eqb-true, eq-eqb}
use Rattle.std.proofs.lemmas.List.{drop_at, append-nil}
use Rattle.std.proofs.Math.Seq.{drop-length, take-length}
use Rattle.rt_pieces.specs.Bytes.{Each, Ends}

unfoldable pub front : (ℕ → Bool) → List ℕ → List ℕ
front p [] = []
front p (x ∷ xs) = cond (p x) (x ∷ front p xs) []

pub front_cons : (p : ℕ → Bool) (x : ℕ) (xs : List ℕ) (k : ℕ) → take k xs ≡ front p xs → (b : Bool) → take (cond b (1 + k) 0) (x ∷ xs) ≡ cond b (x ∷ front p xs) []
front_cons p x xs k e true = let one : 1 + k ≡ suc k = omega arith in rw (one) (ap (λ (t : List ℕ). x ∷ t) e)
front_cons p x xs k e false = refl

pub front_is : (p : ℕ → Bool) (xs : List ℕ) → take_while p xs ≡ front p xs
unfolding front
front_is p [] = refl
front_is p (x ∷ xs) = front_cons p x xs (prefix_len p xs) (front_is p xs) (p x)

pub front_each : (p : ℕ → Bool) (xs ys : List ℕ) → Each p xs → Ends p ys → front p (xs ++ ys) ≡ xs
unfolding front
front_each p [] [] h k = refl
front_each p [] (y ∷ ys) h k = rw k refl
front_each p (x ∷ xs) ys h k = rw (h.0) (ap (λ (t : List ℕ). x ∷ t) (front_each p xs ys h.1 k))

pub while_each : (p : ℕ → Bool) (xs ys : List ℕ) → Each p xs → Ends p ys → take_while p (xs ++ ys) ≡ xs
while_each p xs ys h k = front_is p (xs ++ ys) ∙ front_each p xs ys h k

pub each_cons : (p : ℕ → Bool) (x : ℕ) (xs : List ℕ) → Each p xs → (b : Bool) → p x ≡ b → Each p (cond b (x ∷ xs) [])
each_cons p x xs h true e = (e, h)
each_cons p x xs h false e = tt

pub each_front : (p : ℕ → Bool) (xs : List ℕ) → Each p (front p xs)
unfolding front
each_front p [] = tt
each_front p (x ∷ xs) = each_cons p x (front p xs) (each_front p xs) (p x) refl

-- what the front leaves
pub ends_cons : (p : ℕ → Bool) (x : ℕ) (xs : List ℕ) → Ends p (drop (length (front p xs)) xs) → (b : Bool) → p x ≡ b → Ends p (drop (length (cond b (x ∷ front p xs) [])) (x ∷ xs))
ends_cons p x xs h true e = h
ends_cons p x xs h false e = e

pub ends_front : (p : ℕ → Bool) (xs : List ℕ) → Ends p (drop (length (front p xs)) xs)
unfolding front
ends_front p [] = tt
ends_front p (x ∷ xs) = ends_cons p x xs (ends_front p xs) (p x) refl

pub parts_cons : (p : ℕ → Bool) (x : ℕ) (xs : List ℕ) → front p xs ++ drop (length (front p xs)) xs ≡ xs → (b : Bool) → cond b (x ∷ front p xs) [] ++ drop (length (cond b (x ∷ front p xs) [])) (x ∷ xs) ≡ x ∷ xs
parts_cons p x xs h true = ap (λ (t : List ℕ). x ∷ t) h
parts_cons p x xs h false = refl

pub parts_front : (p : ℕ → Bool) (xs : List ℕ) → front p xs ++ drop (length (front p xs)) xs ≡ xs
unfolding front
parts_front p [] = refl
parts_front p (x ∷ xs) = parts_cons p x xs (parts_front p xs) (p x)

pub front_length : (p : ℕ → Bool) (xs : List ℕ) → length (take_while p xs) ≡ length (front p xs)
front_length p xs = ap length (front_is p xs)

pub true_false : (b : Bool) → b ≡ true → b ≡ false → ⊥
true_false b h k = cc

pub differ : (n k : ℕ) → eqb n k ≡ false → n ≡ k → ⊥
differ n k h e = true_false (eqb k k) (eq-eqb k k refl) (subst (λ (t : ℕ). eqb t k ≡ false) e h)

abbrev pub head_of : List ℕ → ℕ
head_of [] = 0
head_of (b ∷ bs) = b

-- a front that is as long as the list is the list
pub whole_front : (xs ys : List ℕ) → xs ++ drop (length xs) ys ≡ ys → length xs ≡ length ys → xs ≡ ys
whole_front xs ys e len = let none : drop (length xs) ys ≡ [] = ap (λ (n : ℕ). drop n ys) len ∙ drop-length ys in sym (append-nil xs) ∙ ap (λ (t : List ℕ). xs ++ t) (sym none) ∙ e

pub drop_comment : (body rest : List ℕ) → drop (length body + 2) (37 ∷ (body ++ 37 ∷ rest)) ≡ rest
drop_comment body rest = let two : length body + 2 ≡ suc (length (body ++ 37 ∷ [])) = omega (arith, length-append body (37 ∷ [])) in
    rw two (ap (drop (length (body ++ 37 ∷ []))) (sym (append_assoc body (37 ∷ []) rest)) ∙ drop_at (body ++ 37 ∷ []) rest (length (body ++ 37 ∷ [])) refl)

pub neq_eqb : (a b : ℕ) → (a ≡ b → ⊥) → eqb a b ≡ false
neq_eqb a b h = go (eqb a b) refl
  where
    go : (t : Bool) → eqb a b ≡ t → t ≡ false
    go true e = absurd (h (eqb-true a b e))
    go false e = refl

-- what the code calls the rest
pub tail_is : (xs : List ℕ) (k : ℕ) → take (length xs - k) (drop k xs) ≡ drop k xs
tail_is xs k = subst (λ (n : ℕ). take n (drop k xs) ≡ drop k xs) (length-drop k xs) (take-length (drop k xs))
