-- Finding the sizes of all records.
use Rattle.std.proofs.Common.{◌≡◌, ℕ, zero, suc, ◌+◌, ◌≤◌, ◌<◌, ◌⊎◌, inl, inr, Bool, true, false, List, [], ◌∷◌, length, replicate, Option, Some, None, option_map, slice_get, slice_set, refl, sym, ap, ◌∙◌, arith}
use Rattle.rt_modes.specs.declared.mode.Field.{Field}
use Rattle.rt_modes.specs.declared.mode.RecordDef.{RecordDef}
use Rattle.rt_sizes.specs.declared.size.Size.{Size}
use Rattle.rt_sizes.specs.Sizes.{Table, within, fields_if, fields_of, record_layer}
use Rattle.rt_sizes.specs.Capped as kept
use Rattle.rt_sizes.specs.Capped.{counted, size_in, listed, missing, AreRight, AreAll, AreSizes, IsSettled}
use Rattle.rt_sizes.proofs.Layers.{some_is, deeper}
use Rattle.rt_sizes.proofs.Kept.{kept_record, found_record}

-- ---- the list

pub none_in : (n k : ℕ) → size_in (replicate n None) k ≡ None
none_in zero k = refl
none_in (suc n) zero = refl
none_in (suc n) (suc k) = none_in n k

in_set : (s : List (Option Size)) (k j : ℕ) (v : Option Size) (y : Size) → size_in (slice_set s k v) j ≡ Some y → ((j ≡ k) × (v ≡ Some y)) ⊎ (size_in s j ≡ Some y)
in_set [] k j v y e = inr e
in_set (x ∷ s) zero zero v y e = inl (refl, e)
in_set (x ∷ s) zero (suc j) v y e = inr e
in_set (x ∷ s) (suc k) zero v y e = inr e
in_set (x ∷ s) (suc k) (suc j) v y e = elim (in_set s k j v y e) [ inl h ↦ inl (ap suc h.0, h.1) | inr h ↦ inr h ]

pub one_found : (s : List (Option Size)) (k : ℕ) (x : Size) → k < length s → size_in s k ≡ None → missing (slice_set s k (Some x)) + 1 ≡ missing s
one_found [] k x l e = absurd (omega arith)
one_found (None ∷ s) zero x l e = omega arith
one_found (Some y ∷ s) zero x l e = absurd cc
one_found (None ∷ s) (suc k) x l e = let h = one_found s k x (omega arith) e in omega arith
one_found (Some y ∷ s) (suc k) x l e = one_found s k x (omega arith) e

pub missing_within : (s : List (Option Size)) → missing s ≤ length s
missing_within [] = omega arith
missing_within (None ∷ s) = let h = missing_within s in omega arith
missing_within (Some y ∷ s) = let h = missing_within s in omega arith

-- ---- depths

further : (t : Table) (e d k n : ℕ) → within t d k ≡ Some n → within t (e + d) k ≡ Some n
further t zero d k n is = let z : 0 + d ≡ d = omega arith in rw z is
further t (suc e) d k n is = let z : suc e + d ≡ suc (e + d) = omega arith in rw z (deeper t (e + d) k n (further t e d k n is))

one_size : (t : Table) (d e k n m : ℕ) → within t d k ≡ Some n → within t e k ≡ Some m → n ≡ m
one_size t d e k n m h i =
    let a : within t (e + d) k ≡ Some n = further t e d k n h in
    let b : within t (d + e) k ≡ Some m = further t d e k m i in
    let same : e + d ≡ d + e = omega arith in
    some_is n m (sym a ∙ ap (λ z. within t z k) same ∙ b)

deeper_counted : (t : Table) (d k : ℕ) (y : Size) (o : Option ℕ) → within t d k ≡ o → option_map counted o ≡ Some y → option_map counted (within t (suc d) k) ≡ Some y
deeper_counted t d k y None e h = absurd cc
deeper_counted t d k y (Some n) e h = rw (deeper t d k n e) h

-- ---- one more size

module _ (t : Table) where
  right_by : (s : List (Option Size)) (k j d : ℕ) (x y : Size) → ((k : ℕ) (s' : Size) → size_in s k ≡ Some s' → option_map counted (within t d k) ≡ Some s') → kept.record_layer s (fields_of t k) ≡ Some x
      → ((j ≡ k) × (Some x ≡ Some y)) ⊎ (size_in s j ≡ Some y) → option_map counted (within t (suc d) j) ≡ Some y
  unfolding within
  right_by s k j d x y right is (inl h) = rw (h.0) (found_record (within t d) s right (fields_of t k) x is ∙ h.1)
  right_by s k j d x y right is (inr h) = deeper_counted t d j y (within t d j) refl (right j y h)

  pub set_right : (s : List (Option Size)) (k : ℕ) (x : Size) → AreRight t s → kept.record_layer s (fields_of t k) ≡ Some x → AreRight t (slice_set s k (Some x))
  set_right s k x right is = (suc right.0, λ j y e. right_by s k j right.0 x y right.1 is (in_set s k j (Some x) y e))

  pub none_right : (n : ℕ) → AreRight t (replicate n None)
  none_right n = (0, λ k s e. absurd (let bad : None ≡ Some s = sym (none_in n k) ∙ e in cc))

  -- ---- all sizes

  there : (rs : List RecordDef) (b : Option Bool) (k : ℕ) (fs : List Field) → fields_if b (slice_get rs k) ≡ Some fs → k < length rs
  there [] None k fs e = absurd cc
  there [] (Some true) k fs e = absurd cc
  there [] (Some false) k fs e = absurd cc
  there (r ∷ rs) b zero fs e = omega arith
  there (r ∷ rs) b (suc k) fs e = let h = there rs b k fs e in omega arith

  record_there : (f : ℕ → Option ℕ) (k n : ℕ) (o : Option (List Field)) → fields_of t k ≡ o → record_layer f o ≡ Some n → k < length t.records
  record_there f k n None e is = absurd cc
  record_there f k n (Some fs) e is = there t.records (slice_get t.known k) k fs e

  module _ (s : List (Option Size)) (long : length s ≡ length t.records) (right : AreRight t s) (settled : (k : ℕ) → k < length s → IsSettled t s k) where
    same_counted : (d k n : ℕ) (y : Size) (o : Option ℕ) → within t right.0 k ≡ o → option_map counted o ≡ Some y → within t d k ≡ Some n → Some y ≡ Some (counted n)
    same_counted d k n y None e h is = absurd cc
    same_counted d k n y (Some m) e h is = sym h ∙ ap (λ z. Some (counted z)) (one_size t right.0 d k m n e is)

    all_by : (d k n : ℕ) (o : Option Size) → size_in s k ≡ o → within t d k ≡ Some n → kept.record_layer s (fields_of t k) ≡ Some (counted n) → k < length s → size_in s k ≡ Some (counted n)
    all_by d k n None e is found l = absurd (let bad : None ≡ Some (counted n) = sym (settled k l e) ∙ found in cc)
    all_by d k n (Some y) e is found l = e ∙ same_counted d k n y (within t right.0 k) refl (right.1 k y e) is

    pub all_found : (d k n : ℕ) → within t d k ≡ Some n → size_in s k ≡ Some (counted n)
    unfolding within
    all_found zero k n e = absurd cc
    all_found (suc d) k n e =
        let l : k < length t.records = record_there (within t d) k n (fields_of t k) refl e in
        all_by (suc d) k n (size_in s k) refl e (kept_record (within t d) s (all_found d) (fields_of t k) n e) (omega arith)

    pub are_sizes : AreSizes t s
    are_sizes = record { one_each = long; right = right; all = λ k d n. all_found d k n }
