-- Sizes are found where records are looked into no deeper than there are records.
use Rattle.std.proofs.Common.{◌≡◌, ℕ, zero, suc, ◌+◌, ◌-◌, ◌<◌, ◌≤◌, ◌⊎◌, inl, inr, Bool, true, false, List, [], ◌∷◌, length, Option, Some, None, refl, sym, subst, ◌∙◌, arith}
use Rattle.std.specs.List.{slice_get}
use Rattle.rt_modes.specs.declared.mode.Field.{Field}
use Rattle.rt_modes.specs.declared.mode.RecordDef.{RecordDef}
use Rattle.rt_sizes.specs.Sizes.{Table, within, fields_if, fields_of, record_layer, End}
use Rattle.rt_sizes.proofs.Layers.{more_record, more_fields_end, deeper}
use Rattle.rt_object.specs.Grammar.{size_of}
use Rattle.rt_object.specs.Ranges.{table_of}

-- ---- counting

-- 1 where there is no size
abbrev gap : Option ℕ → ℕ
gap None = 1
gap (Some n) = 0

-- how many of the first n have no size
abbrev gaps : (ℕ → Option ℕ) → ℕ → ℕ
gaps f zero = 0
gaps f (suc n) = gap (f n) + gaps f n

abbrev Up : (ℕ → Option ℕ) → (ℕ → Option ℕ) → Type 0
Up f g = (k n : ℕ) → f k ≡ Some n → g k ≡ Some n

gap_less : (a b : Option ℕ) → ((n : ℕ) → a ≡ Some n → b ≡ Some n) → gap b ≤ gap a
gap_less None None h = omega arith
gap_less None (Some m) h = omega arith
gap_less (Some n) None h = absurd (let bad = h n refl in cc)
gap_less (Some n) (Some m) h = omega arith

gaps_less : (f g : ℕ → Option ℕ) → Up f g → (n : ℕ) → gaps g n ≤ gaps f n
gaps_less f g up zero = omega arith
gaps_less f g up (suc n) = let one = gap_less (f n) (g n) (up n) in let rest = gaps_less f g up n in omega arith

gap_same : (a b : Option ℕ) → gap b ≡ gap a → (n : ℕ) → b ≡ Some n → ((m : ℕ) → a ≡ Some m → b ≡ Some m) → a ≡ Some n
gap_same None None e n is h = absurd cc
gap_same None (Some m) e n is h = absurd (omega arith)
gap_same (Some m) b e n is h = sym (h m refl) ∙ is

-- where no more have a size, all have the same
same_gaps : (f g : ℕ → Option ℕ) → Up f g → (n : ℕ) → gaps g n ≡ gaps f n → (k m : ℕ) → k < n → g k ≡ Some m → f k ≡ Some m
same_gaps f g up zero e k m below is = absurd (omega arith)
same_gaps f g up (suc n) e k m below is =
    let one = gap_less (f n) (g n) (up n) in
    let rest = gaps_less f g up n in
    elim (last k n below) [
      | inl same ↦ subst (λ j. f j ≡ Some m) (sym same) (gap_same (f n) (g n) (omega arith) m (subst (λ j. g j ≡ Some m) same is) (up n))
      | inr less ↦ same_gaps f g up n (omega arith) k m less is
    ]
  where
    last : (k n : ℕ) → k < suc n → (k ≡ n) ⊎ (k < n)
    last k n below = grind arith

-- ---- depths

there_by : (b : Option Bool) (rs : List RecordDef) (k : ℕ) (fs : List Field) → fields_if b (slice_get rs k) ≡ Some fs → k < length rs
there_by (Some true) [] k fs e = absurd cc
there_by (Some true) (r ∷ rs) zero fs e = omega arith
there_by (Some true) (r ∷ rs) (suc k) fs e = let l = there_by (Some true) rs k fs e in omega arith
there_by (Some false) rs k fs e = absurd cc
there_by None rs k fs e = absurd cc

module _ (t : Table) where
  has_fields : (f : ℕ → Option ℕ) (o : Option (List Field)) (n : ℕ) → record_layer f o ≡ Some n → (fs : List Field) × (o ≡ Some fs)
  has_fields f None n e = absurd cc
  has_fields f (Some fs) n e = (fs, refl)

  -- only the records of the table have a size
  is_there : (d k n : ℕ) → within t d k ≡ Some n → k < length t.records
  unfolding within
  is_there zero k n e = absurd cc
  is_there (suc d) k n e = let has = has_fields (within t d) (fields_of t k) n e in there_by (slice_get t.known k) t.records k has.0 has.1

  -- one deeper no more have a size
  abbrev Still : ℕ → Type 0
  Still d = Up (within t (suc d)) (within t d)

  still_on : (d : ℕ) → Still d → Still (suc d)
  unfolding within
  still_on d h k n e = more_record (within t (suc d)) (within t d) h (fields_of t k) n e

  still_all : (e d : ℕ) → Still d → Up (within t (e + d)) (within t d)
  still_all zero d h k n is = let z : 0 + d ≡ d = omega arith in subst (λ x. within t x k ≡ Some n) z is
  still_all (suc e) d h k n is =
      let z : suc e + d ≡ e + suc d = omega arith in
      h k n (still_all e (suc d) (still_on d h) k n (subst (λ x. within t x k ≡ Some n) z is))

  abbrev size : ℕ
  size = length t.records

  -- at each depth no more have a size from some depth before it on, or as many have one as it is deep
  abbrev Reached : ℕ → Type 0
  Reached d = ((e : ℕ) × (e < d) × Still e) ⊎ (gaps (within t d) size + d ≤ size)

  all_gaps : (f : ℕ → Option ℕ) (n : ℕ) → gaps f n ≤ n
  all_gaps f zero = omega arith
  all_gaps f (suc n) = let one = most (f n) in let rest = all_gaps f n in omega arith
    where
      most : (o : Option ℕ) → gap o ≤ 1
      most None = omega arith
      most (Some m) = omega arith

  one_deeper : (d : ℕ) → gaps (within t d) size + d ≤ size → Reached (suc d)
  one_deeper d h =
      let less = gaps_less (within t d) (within t (suc d)) (deeper t d) size in
      elim (by (gaps (within t (suc d)) size) (gaps (within t d) size) less) [
        | inl same ↦ inl (d, omega arith, λ k n e. same_gaps (within t d) (within t (suc d)) (deeper t d) size same k n (is_there (suc d) k n e) e)
        | inr fewer ↦ inr (omega arith)
      ]
    where
      by : (a b : ℕ) → a ≤ b → (a ≡ b) ⊎ (a < b)
      by a b h = grind arith

  reached : (d : ℕ) → Reached d
  reached zero = inr (let most = all_gaps (within t zero) size in omega arith)
  reached (suc d) = elim (reached d) [ inl (e, below, still) ↦ inl (e, omega arith, still) | inr h ↦ one_deeper d h ]

  still_end : (e : ℕ) × (e < suc size) × Still e
  still_end = elim (reached (suc size)) [ inl k ↦ k | inr h ↦ absurd (omega arith) ]

  further : (e d : ℕ) → Up (within t d) (within t (e + d))
  further zero d k n is = let z : 0 + d ≡ d = omega arith in subst (λ x. within t x k ≡ Some n) (sym z) is
  further (suc e) d k n is = let z : suc e + d ≡ suc (e + d) = omega arith in subst (λ x. within t x k ≡ Some n) (sym z) (deeper t (e + d) k n (further e d k n is))

  -- what is found at any depth is found there
  pub deep_enough : (d : ℕ) → Up (within t d) (within t (suc size))
  deep_enough d k n is =
      let end = still_end in
      let up = further end.0 d k n is in
      let comm : end.0 + d ≡ d + end.0 = omega arith in
      let low : within t end.0 k ≡ Some n = still_all d end.0 end.2 k n (subst (λ x. within t x k ≡ Some n) comm up) in
      let below = end.1 in
      let rest : ℕ = suc size - end.0 in
      let z : rest + end.0 ≡ suc size = omega arith in
      subst (λ x. within t x k ≡ Some n) z (further rest end.0 k n low)

pub end_is_size : (records : List RecordDef) (fields : List Field) (n : ℕ) → End (table_of records) fields n → size_of records fields ≡ Some n
end_is_size records fields n (d, e) = more_fields_end (within (table_of records) d) (within (table_of records) (suc (length records))) (deep_enough (table_of records) d) fields 0 n e

pub size_is_end : (records : List RecordDef) (fields : List Field) (n : ℕ) → size_of records fields ≡ Some n → End (table_of records) fields n
size_is_end records fields n e = (suc (length records), e)
