-- Lists of lines and what each of them says; the first line that breaks a rule is one line.
use Rattle.std.proofs.Common.{◌≡◌, ℕ, zero, suc, ◌-◌, ◌<◌, ◌≤◌, List, [], ◌∷◌, ◌++◌, length, take, drop, refl, sym, ap, subst, ◌∙◌, append_assoc, arith}
use Rattle.std.specs.Prelude.{flat_map}
use Rattle.std.proofs.lemmas.List.{take-append-drop, take-take}
use Rattle.rt_system.specs.Lines.{lines, Say, IsFirstBad}

module _ {K : Type 0} (P : List ℕ → K → Type 0) where
  -- one line more
  pub says_more : (ls : List (List ℕ)) (ks : List K) (l : List ℕ) (k : K) → Say P ls ks → P l k → Say P (ls ++ l ∷ []) (ks ++ k ∷ [])
  says_more [] [] l k h is = (is, tt)
  says_more [] (c ∷ ks) l k h is = absurd h
  says_more (m ∷ ls) [] l k h is = absurd h
  says_more (m ∷ ls) (c ∷ ks) l k h is = (h.0, says_more ls ks l k h.1 is)

  pub record SaysBoth (a b : List (List ℕ)) (ks : List K) : Type 0 where
    pub left : List K
    pub right : List K
    pub parts : ks ≡ left ++ right
    pub first : Say P a left
    pub second : Say P b right

  pub says_split : (a b : List (List ℕ)) (ks : List K) → Say P (a ++ b) ks → SaysBoth a b ks
  says_split [] b ks h = record { left = []; right = ks; parts = refl; first = tt; second = h }
  says_split (l ∷ a) b [] h = absurd h
  says_split (l ∷ a) b (k ∷ ks) h =
      let s = says_split a b ks h.1 in
      record { left = k ∷ s.left; right = s.right; parts = ap (λ (t : List K). k ∷ t) s.parts; first = (h.0, s.first); second = s.second }

  pub says_one : ((l : List ℕ) (k m : K) → P l k → P l m → k ≡ m) → (ls : List (List ℕ)) (ks ms : List K) → Say P ls ks → Say P ls ms → ks ≡ ms
  says_one same [] [] [] h i = refl
  says_one same [] [] (m ∷ ms) h i = absurd i
  says_one same [] (k ∷ ks) ms h i = absurd h
  says_one same (l ∷ ls) [] ms h i = absurd h
  says_one same (l ∷ ls) (k ∷ ks) [] h i = absurd i
  says_one same (l ∷ ls) (k ∷ ks) (m ∷ ms) h i =
      let first = same l k m h.0 i.0 in
      let rest = says_one same ls ks ms h.1 i.1 in
      cc

pub says_length : {K : Type 0} (P : List ℕ → K → Type 0) (ls : List (List ℕ)) (ks : List K) → Say P ls ks → length ks ≡ length ls
says_length P [] [] h = refl
says_length P [] (k ∷ ks) h = absurd h
says_length P (l ∷ ls) [] h = absurd h
says_length P (l ∷ ls) (k ∷ ks) h = let e = says_length P ls ks h.1 in omega arith

pub flat_map_append : {A B : Type 0} (f : A → List B) (xs ys : List A) → flat_map f (xs ++ ys) ≡ flat_map f xs ++ flat_map f ys
flat_map_append f [] ys = refl
flat_map_append f (x ∷ xs) ys = ap (λ t. f x ++ t) (flat_map_append f xs ys) ∙ sym (append_assoc (f x) (flat_map f xs) (flat_map f ys))

-- ---- the first elements of a list

pub record TakesNext {A : Type 0} (n : ℕ) (xs : List A) (y : A) (ys : List A) : Type 0 where
  pub taken : take (suc n) xs ≡ take n xs ++ y ∷ []
  pub left : drop (suc n) xs ≡ ys

pub takes_next : {A : Type 0} (n : ℕ) (xs : List A) (y : A) (ys : List A) → drop n xs ≡ y ∷ ys → TakesNext n xs y ys
takes_next zero [] y ys e = absurd cc
takes_next zero (x ∷ xs) y ys e =
    let first : x ≡ y = cc in
    let rest : xs ≡ ys = cc in
    record { taken = rw first refl; left = rest }
takes_next (suc n) [] y ys e = absurd cc
takes_next (suc n) (x ∷ xs) y ys e =
    let h = takes_next n xs y ys e in
    record { taken = ap (λ t. x ∷ t) h.taken; left = h.left }

pub takes_all : {A : Type 0} (n : ℕ) (xs : List A) → drop n xs ≡ [] → take n xs ≡ xs
takes_all zero xs e = sym e
takes_all (suc n) [] e = refl
takes_all (suc n) (x ∷ xs) e = ap (λ t. x ∷ t) (takes_all n xs e)

pub take_front : {A : Type 0} (n m : ℕ) (xs : List A) → n ≤ m → take m xs ≡ take n xs ++ drop n (take m xs)
take_front n m xs h = sym (take-append-drop n (take m xs)) ∙ ap (λ t. t ++ drop n (take m xs)) (take-take n m xs h)

-- ---- one first bad line

abbrev pub HasGoodFronts : (List (List ℕ) → Type 0) → Type 0
HasGoodFronts Good = (a b : List (List ℕ)) → Good (a ++ b) → Good a

not_before : (Good : List (List ℕ) → Type 0) → HasGoodFronts Good → (bytes : List ℕ) (n m : ℕ) → IsFirstBad Good bytes n → IsFirstBad Good bytes m → n < m → ⊥
not_before Good fronts bytes n m h k lt =
    h.with_it (fronts (take n (lines bytes)) (drop n (take (m - 1) (lines bytes))) (subst Good (take_front n (m - 1) (lines bytes) (omega arith)) k.before))

same_by : (n m : ℕ) → (n < m → ⊥) → (m < n → ⊥) → n ≡ m
same_by n m h k = omega arith

pub one_bad : (Good : List (List ℕ) → Type 0) → HasGoodFronts Good → (bytes : List ℕ) (n m : ℕ) → IsFirstBad Good bytes n → IsFirstBad Good bytes m → n ≡ m
one_bad Good fronts bytes n m h k = same_by n m (not_before Good fronts bytes n m h k) (not_before Good fronts bytes m n k h)

-- where all lines are good, no line is bad
pub none_bad : (Good : List (List ℕ) → Type 0) → HasGoodFronts Good → (bytes : List ℕ) (n : ℕ) → Good (lines bytes) → IsFirstBad Good bytes n → ⊥
none_bad Good fronts bytes n all h =
    h.with_it (fronts (take n (lines bytes)) (drop n (lines bytes)) (subst Good (sym (take-append-drop n (lines bytes))) all))
