-- Whether a record contains another is told by ways over the first records alone: over none, over one more, and so on.
use Rattle.std.proofs.Common.{◌≡◌, ◌⊎◌, ℕ, zero, suc, ◌<◌, inl, inr, List, [], ◌∷◌, length, Option, Some, None, refl, ap, subst, arith}
use Rattle.rt_modes.specs.declared.mode.Field.{Field}
use Rattle.rt_modes.specs.declared.mode.RecordDef.{RecordDef}
use Rattle.rt_sizes.specs.Containing.{held, HaveOne, fields_of, Contains, directly, through}
use Rattle.rt_sizes.proofs.Reaching.{have_there}
use Rattle.rt_sizes_laws.specs.Decided.{IsDecided, RingsAreDecided}
use Rattle.rt_sizes_laws.proofs.Settled.{before_next}

-- ---- what can be told

either : {A B : Type 0} → IsDecided A → IsDecided B → IsDecided (A ⊎ B)
either (inl a) d = inl (inl a)
either (inr not_left) (inl b) = inl (inr b)
either (inr not_left) (inr not_right) = inr (λ x. elim x [ inl a ↦ not_left a | inr b ↦ not_right b ])

both : {A B : Type 0} → IsDecided A → IsDecided B → IsDecided (A × B)
both (inl a) (inl b) = inl (a, b)
both (inl a) (inr not_right) = inr (λ x. not_right x.1)
both (inr not_left) d = inr (λ x. not_left x.0)

numbers : (q s : ℕ) → IsDecided (Some q ≡ Some s)
numbers zero zero = inl refl
numbers zero (suc s) = inr (λ e. cc)
numbers (suc q) zero = inr (λ e. cc)
numbers (suc q) (suc s) = elim (numbers q s) [ inl e ↦ inl (let same : q ≡ s = cc in ap (λ (x : ℕ). Some (suc x)) same) | inr never ↦ inr (λ e. never (let same : q ≡ s = cc in ap (λ (x : ℕ). Some x) same)) ]

same_told : (o : Option ℕ) (s : ℕ) → IsDecided (o ≡ Some s)
same_told None s = inr (λ e. cc)
same_told (Some q) s = numbers q s

have_told : (fs : List Field) (s : ℕ) → IsDecided (HaveOne fs s)
have_told [] s = inr (λ h. h)
have_told (f ∷ fs) s = either (same_told (held f.mode) s) (have_told fs s)

-- ---- ways

module _ (records : List RecordDef) where
  -- a way from record r to what it contains, s, over none but the first k records
  abbrev Way : ℕ → ℕ → ℕ → Type 0
  Way zero r s = HaveOne (fields_of records r) s
  Way (suc k) r s = Way k r s ⊎ (Way k r k × Way k k s)

  to_last : (k r : ℕ) → Way (suc k) r k → Way k r k
  to_last k r w = elim w [ inl x ↦ x | inr y ↦ y.0 ]

  from_last : (k s : ℕ) → Way (suc k) k s → Way k k s
  from_last k s w = elim w [ inl x ↦ x | inr y ↦ y.1 ]

  abbrev Joins : ℕ → Type 0
  Joins k = (r j s : ℕ) → j < k → Way k r j → Way k j s → Way k r s

  joined_below : (k : ℕ) → Joins k → (r j s : ℕ) → j < k → Way (suc k) r j → Way (suc k) j s → Way (suc k) r s
  joined_below k joins r j s l (inl a) (inl b) = inl (joins r j s l a b)
  joined_below k joins r j s l (inl a) (inr b) = inr (joins r j k l a b.0, b.1)
  joined_below k joins r j s l (inr a) (inl b) = inr (a.0, joins k j s l a.1 b)
  joined_below k joins r j s l (inr a) (inr b) = inr (a.0, b.1)

  joined : (k : ℕ) → Joins k
  joined zero r j s l a b = absurd (omega arith)
  joined (suc k) r j s l a b = elim (before_next j k l) [
    | inl less ↦ joined_below k (joined k) r j s less a b
    | inr same ↦ inr (to_last k r (subst (λ (x : ℕ). Way (suc k) r x) same a), from_last k s (subst (λ (x : ℕ). Way (suc k) x s) same b))
  ]

  contains_both : (r u s : ℕ) → Contains records r u → Contains records u s → Contains records r s
  contains_both r u s c (directly h) = through c h
  contains_both r u s c (through {s = v} d h) = through (contains_both r u v c d) h

  sound : (k r s : ℕ) → Way k r s → Contains records r s
  sound zero r s w = directly w
  sound (suc k) r s (inl w) = sound k r s w
  sound (suc k) r s (inr w) = contains_both r k s (sound k r k w.0) (sound k k s w.1)

  raised : (k r s : ℕ) → HaveOne (fields_of records r) s → Way k r s
  raised zero r s h = h
  raised (suc k) r s h = inl (raised k r s h)

  complete : (r s : ℕ) → Contains records r s → Way (length records) r s
  complete r s (directly h) = raised (length records) r s h
  complete r u (through {s = s} c h) = joined (length records) r s u (have_there records s u h) (complete r s c) (raised (length records) s u h)

  ways_told : (k r s : ℕ) → IsDecided (Way k r s)
  ways_told zero r s = have_told (fields_of records r) s
  ways_told (suc k) r s = either (ways_told k r s) (both (ways_told k r k) (ways_told k k s))

pub rings_are_decided : RingsAreDecided
rings_are_decided records r s = elim (ways_told records (length records) r s) [ inl w ↦ inl (sound records (length records) r s w) | inr never ↦ inr (λ c. never (complete records r s c)) ]
