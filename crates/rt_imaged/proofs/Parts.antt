-- Lists that stand in lists.
use Rattle.std.proofs.Common.{◌≡◌, ℕ, zero, suc, ◌+◌, ◌<◌, ◌≤◌, List, [], ◌∷◌, ◌++◌, length, take, Some, slice_get, slice_index, refl, ap, ◌∙◌, subst, arith, length-append}
use Rattle.std.specs.List.{flat_map, sum_by}
use Rattle.std.proofs.lemmas.List.{get_or_append_left, get_or-append-add}
use Rattle.std.proofs.lemmas.List.Sums.{sum_by-cons}

-- ys stands in xs at p
pub record StandsIn (xs : List ℕ) (p : ℕ) (ys : List ℕ) : Type 0 where
  pub within : p + length ys ≤ length xs
  pub same : (i : ℕ) → i < length ys → slice_index xs (p + i) ≡ slice_index ys i

pub in_front : (ys zs : List ℕ) → StandsIn (ys ++ zs) 0 ys
in_front ys zs = record {
  within = (let l = length-append ys zs in omega arith);
  same = λ i less. (let z : 0 + i ≡ i = omega arith in ap (slice_index (ys ++ zs)) z ∙ get_or_append_left ys zs 0 i less);
}

pub behind : (xs zs : List ℕ) (p : ℕ) (ys : List ℕ) → StandsIn zs p ys → StandsIn (xs ++ zs) (length xs + p) ys
behind xs zs p ys h = record {
  within = (let l = length-append xs zs in let w = h.within in omega arith);
  same = λ i less. (let z : length xs + p + i ≡ length xs + (p + i) = omega arith in ap (slice_index (xs ++ zs)) z ∙ get_or-append-add xs zs (p + i) 0 ∙ h.same i less);
}

pub before : (xs zs : List ℕ) (p : ℕ) (ys : List ℕ) → StandsIn xs p ys → StandsIn (xs ++ zs) p ys
before xs zs p ys h = record {
  within = (let l = length-append xs zs in let w = h.within in omega arith);
  same = λ i less. (let w = h.within in get_or_append_left xs zs 0 (p + i) (omega arith) ∙ h.same i less);
}

pub inside : (xs : List ℕ) (p : ℕ) (ys : List ℕ) (q : ℕ) (zs : List ℕ) → StandsIn xs p ys → StandsIn ys q zs → StandsIn xs (p + q) zs
inside xs p ys q zs h g = record {
  within = (let a = h.within in let b = g.within in omega arith);
  same = λ i less. (let b = g.within in let z : p + q + i ≡ p + (q + i) = omega arith in ap (slice_index xs) z ∙ h.same (q + i) (omega arith) ∙ g.same i less);
}

pub moved : (xs : List ℕ) (p q : ℕ) (ys : List ℕ) → p ≡ q → StandsIn xs p ys → StandsIn xs q ys
moved xs p q ys e h = subst (λ (n : ℕ). StandsIn xs n ys) e h

-- the k-th of some parts that are joined
module _ {A : Type 0} (F : A → List ℕ) (size : A → ℕ) (long : (a : A) → length (F a) ≡ size a) where
  pub part_stands : (xs : List A) (k : ℕ) (x : A) → slice_get xs k ≡ Some x → StandsIn (flat_map F xs) (sum_by size (take k xs)) (F x)
  part_stands [] k x e = absurd cc
  part_stands (y ∷ xs) zero x e =
      let is : y ≡ x = cc in
      subst (λ (z : A). StandsIn (F y ++ flat_map F xs) 0 (F z)) is (in_front (F y) (flat_map F xs))
  part_stands (y ∷ xs) (suc k) x e =
      let rest = part_stands xs k x e in
      let more : sum_by size (y ∷ take k xs) ≡ size y + sum_by size (take k xs) = sum_by-cons size y (take k xs) in
      let first = long y in
      moved (F y ++ flat_map F xs) (length (F y) + sum_by size (take k xs)) (sum_by size (y ∷ take k xs)) (F x) (omega arith) (behind (F y) (flat_map F xs) (sum_by size (take k xs)) (F x) rest)

  pub all_long : (xs : List A) → length (flat_map F xs) ≡ sum_by size xs
  all_long [] = refl
  all_long (y ∷ xs) =
      let more : sum_by size (y ∷ xs) ≡ size y + sum_by size xs = sum_by-cons size y xs in
      let first = long y in
      let rest = all_long xs in
      let both : length (F y ++ flat_map F xs) ≡ length (F y) + length (flat_map F xs) = length-append (F y) (flat_map F xs) in
      (let q : length (F y ++ flat_map F xs) ≡ sum_by size (y ∷ xs) = omega arith in q)
