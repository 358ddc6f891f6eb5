-- Whether a record is bad can be told, and so can the first bad one.
use Rattle.std.proofs.Common.{◌≡◌, ℕ, zero, suc, ◌+◌, ◌<◌, ◌≤◌, ◌⊎◌, inl, inr, Bool, true, false, List, [], ◌∷◌, ◌++◌, length, replicate, take, Option, Some, None, refl, sym, ap, subst, ◌∙◌, arith, append_assoc}
use Rattle.std.specs.List.{slice_get}
use Rattle.std.proofs.lemmas.List.{append-nil}
use Rattle.rt_words.specs.Format.{Format, each}
use Rattle.rt_modes.specs.declared.mode.RecordDef.{RecordDef}
use Rattle.rt_sizes.specs.Containing.{fields_of, Contains}
use Rattle.rt_sizes.specs.Reaching.{Reach, reach, visit, unmarked}
use Rattle.rt_sizes.specs.Sizes.{within, RecordHasSize}
use Rattle.rt_sizes.proofs.Layers.{some_is}
use Rattle.rt_sizes.proofs.Reaching.{Going, Marked, begun_at, gone_at, less_left, ends_at}
use Rattle.rt_object.specs.Grammar.{IsFirstBad}
use Rattle.rt_object.specs.Ranges.{IsBadRecord, table_of}
use Rattle.rt_object.proofs.Depth.{deep_enough}

abbrev pub Told : Type 0 → Type 0
Told P = P ⊎ (P → ⊥)

-- ---- whether a record contains itself: the records on the way are visited until none waits

last_of : (w : ℕ) (ws : List ℕ) → (front : List ℕ) × (next : ℕ) × (w ∷ ws ≡ front ++ next ∷ [])
last_of w [] = ([], w, refl)
last_of w (v ∷ ws) = let k = last_of v ws in (w ∷ k.0, k.1, ap (λ t. w ∷ t) k.2)

module _ (records : List RecordDef) (k : ℕ) where
  marked_told : (o : Option Bool) (ms : List Bool) → slice_get ms k ≡ o → (Marked ms k → Contains records k k) × (Contains records k k → Marked ms k) → Told (Contains records k k)
  marked_told None ms e h = inr (λ c. let bad : None ≡ Some true = sym e ∙ h.1 c in cc)
  marked_told (Some true) ms e h = inl (h.0 e)
  marked_told (Some false) ms e h = inr (λ c. let bad : Some false ≡ Some true = sym e ∙ h.1 c in cc)

  told_step : (n : ℕ) (st : Reach) → unmarked st.marks + length st.waiting < suc n → Going records k st → ((next : Reach) → unmarked next.marks + length next.waiting < n → Going records k next → Told (Contains records k k))
      → (ws : List ℕ) → st.waiting ≡ ws → Told (Contains records k k)
  told_step n st small g more [] e = marked_told (slice_get st.marks k) st.marks refl (ends_at records st.marks st.waiting k g e)
  told_step n st small g more (w ∷ ws) e =
      let split = last_of w ws in
      let same : st.waiting ≡ split.0 ++ split.1 ∷ [] = e ∙ split.2 in
      let next : Reach = visit (fields_of records split.1) (reach st.marks split.0) in
      let less = less_left st.marks st.waiting split.0 split.1 (fields_of records split.1) next same refl in
      more next (omega arith) (gone_at records k st.marks st.waiting split.0 split.1 (fields_of records split.1) next same refl refl g)

  told_from : (n : ℕ) (st : Reach) → unmarked st.marks + length st.waiting < n → Going records k st → Told (Contains records k k)
  told_from zero st small g = absurd (omega arith)
  told_from (suc n) st small g = told_step n st small g (told_from n) st.waiting refl

  pub contains_told : Told (Contains records k k)
  contains_told =
      let none : List Bool = replicate (length records) false in
      let first : Reach = visit (fields_of records k) (reach none []) in
      told_from (suc (unmarked first.marks + length first.waiting)) first (omega arith) (begun_at records k none [] (fields_of records k) first refl refl refl refl)

  -- ---- whether it is too large

  large_told : (o : Option ℕ) → within (table_of records) (suc (length records)) k ≡ o → Told ((n : ℕ) × RecordHasSize (table_of records) k n × (57344 < n))
  large_told None e = inr (λ h. let at = deep_enough (table_of records) h.1.0 k h.0 h.1.1 in let bad : None ≡ Some h.0 = sym e ∙ at in cc)
  large_told (Some n) e = by (small n)
    where
      small : (n : ℕ) → (n ≤ 57344) ⊎ (57344 < n)
      small n = grind arith

      by : (n ≤ 57344) ⊎ (57344 < n) → Told ((n : ℕ) × RecordHasSize (table_of records) k n × (57344 < n))
      by (inl few) = inr (λ h. let at = deep_enough (table_of records) h.1.0 k h.0 h.1.1 in let same : n ≡ h.0 = some_is n h.0 (sym e ∙ at) in let more = h.2 in absurd (omega arith))
      by (inr more) = inl (n, (suc (length records), e), more)

  pub bad_told : Told (IsBadRecord records k)
  bad_told = elim contains_told [
    | inl c ↦ inl (inl c)
    | inr unlike ↦ elim (large_told (within (table_of records) (suc (length records)) k) refl) [ inl large ↦ inl (inr large) | inr few ↦ inr (λ h. elim h [ inl c ↦ unlike c | inr large ↦ few large ]) ]
  ]

-- ---- the first bad one

abbrev pub NoneBad : List RecordDef → ℕ → Type 0
NoneBad records n = (k : ℕ) → k < n → IsBadRecord records k → ⊥

module _ (records : List RecordDef) where
  pub none_more : (n : ℕ) → NoneBad records n → (IsBadRecord records n → ⊥) → NoneBad records (n + 1)
  none_more n none fine k below bad = elim (last k n below) [ inl same ↦ fine (subst (IsBadRecord records) same bad) | inr less ↦ none k less bad ]
    where
      last : (k n : ℕ) → k < n + 1 → (k ≡ n) ⊎ (k < n)
      last k n below = grind arith

  first_below : (n : ℕ) → n ≤ length records → ((k : ℕ) × IsFirstBad records k) ⊎ NoneBad records n
  first_below zero h = inr (λ k below bad. absurd (omega arith))
  first_below (suc n) h = elim (first_below n (omega arith)) [
    | inl found ↦ inl found
    | inr none ↦ elim (bad_told records n) [
      | inl bad ↦ inl (n, record { there = omega arith; bad = bad; none_before = none })
      | inr fine ↦ inr (λ k below bad. elim (last k n below) [ inl same ↦ fine (subst (IsBadRecord records) same bad) | inr less ↦ none k less bad ])
    ]
  ]
    where
      last : (k n : ℕ) → k < suc n → (k ≡ n) ⊎ (k < n)
      last k n below = grind arith

  pub first_told : ((k : ℕ) × IsFirstBad records k) ⊎ NoneBad records (length records)
  first_told = first_below (length records) (omega arith)

-- ---- the front of a list that fits

module _ {A : Type 0} (P : List A → Format A) where
  each_whole : (n : ℕ) (found all : List A) (l r : List ℕ) → (each P n found).Fits l r all → (more : List A) × (all ≡ found ++ more)
  unfolding each
  each_whole zero found all l r (e, f) = ([], sym f ∙ sym (append-nil found))
  each_whole (suc n) found all l r (m, a, fits, rest) = let k = each_whole n (found ++ a ∷ []) all m r rest in (a ∷ k.0, k.1 ∙ append_assoc found (a ∷ []) k.0)

  take_front : (found more : List A) → take (length found) (found ++ more) ≡ found
  take_front [] more = refl
  take_front (x ∷ found) more = ap (λ t. x ∷ t) (take_front found more)

  pub each_front : (n k : ℕ) (found all : List A) (l r : List ℕ) → k ≤ n → (each P n found).Fits l r all → (m : List ℕ) × (each P k found).Fits l m (take (length found + k) all)
  unfolding each
  each_front n zero found all l r h f = let whole = each_whole n found all l r f in let size : length found + 0 ≡ length found = omega arith in
      (l, (refl, sym (take_front found whole.0) ∙ ap (take (length found)) (sym whole.1) ∙ ap (λ z. take z all) (sym size)))
  each_front zero (suc k) found all l r h f = absurd (omega arith)
  each_front (suc n) (suc k) found all l r h (m, a, fits, rest) =
      let next = each_front n k (found ++ a ∷ []) all m r (omega arith) rest in
      let size : length (found ++ a ∷ []) + k ≡ length found + suc k = ap (λ z. z + k) (longer found a) ∙ one_more (length found) k in
      (next.0, (m, a, fits, subst (λ z. (each P k (found ++ a ∷ [])).Fits m next.0 (take z all)) size next.1))
    where
      longer : (xs : List A) (x : A) → length (xs ++ x ∷ []) ≡ length xs + 1
      longer [] x = refl
      longer (y ∷ xs) x = let h = longer xs x in omega arith

      one_more : (a b : ℕ) → a + 1 + b ≡ a + suc b
      one_more a b = omega arith
