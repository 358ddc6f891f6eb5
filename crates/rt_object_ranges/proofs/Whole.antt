-- What tests of parts say of the ranges of the whole.
use Rattle.std.proofs.Common.{◌≡◌, ℕ, ◌+◌, ◌<◌, ◌≤◌, ◌⊎◌, inl, inr, Bool, List, length, get_or, Ok, Err, Result, IfOk, IsTrue, sym, subst, arith}
use Rattle.std.specs.List.{All}
use Rattle.std.proofs.lemmas.List.Elements.{recursion_from_All}
use Rattle.std.proofs.lemmas.List.{get_or_default}
use Rattle.std.proofs.lemmas.Slice.Eq.{bytes_eq-Decides}
use Rattle.rt_modes.specs.declared.mode.Field.{Field}
use Rattle.rt_modes.specs.declared.mode.Mode.{Mode}
use Rattle.rt_modes.specs.declared.mode.RecordDef.{RecordDef}
use Rattle.rt_object.specs.Grammar.{is_rrerr}
use Rattle.rt_object.specs.Ranges.{AreDifferent, HasRecordRanges, HaveOutsideRanges, HaveRecordRanges, IsBadRecord, IsLabel, record_names, rrerr}
use Rattle.rt_object_ranges.specs.Parts.{MayBe}
use Rattle.rt_object_ranges.proofs.Each.{fields_same}

-- unless memory runs out, a test tells whether something holds
abbrev pub Tells : {E : Type 0} → Result Bool E → Type 0 → Type 0
Tells o P = IfOk o (λ b. (IsTrue b → P) × (P → IsTrue b))

pub tells_same : {E : Type 0} (o : Result Bool E) (P Q : Type 0) → (P → Q) → (Q → P) → Tells o P → Tells o Q
tells_same (Ok b) P Q to from h = (λ e. to (h.0 e), λ q. h.1 (from q))
tells_same (Err e) P Q to from h = tt

-- ---- one element after another

pub each_next : {A : Type 0} (P : A → Type 0) (xs : List A) (i : ℕ) (e : A) → i < length xs → P (get_or xs i e) → ((k : ℕ) (d : A) → k < i → P (get_or xs k d)) → (k : ℕ) (d : A) → k < i + 1 → P (get_or xs k d)
each_next P xs i e within here before k d below = by (last k i below)
  where
    last : (k i : ℕ) → k < i + 1 → (k ≡ i) ⊎ (k < i)
    last k i below = grind arith

    by : (k ≡ i) ⊎ (k < i) → P (get_or xs k d)
    by (inl same) = subst (λ j. P (get_or xs j d)) (sym same) (subst P (get_or_default xs i e d within) here)
    by (inr less) = before k d less

-- ---- labels

abbrev pub IsInRrerr : List ℕ → Mode → Type 0
IsInRrerr name m = IsLabel m → name ≡ rrerr

pub rrerr_is : (name : List ℕ) (m : Mode) → MayBe (is_rrerr name) m → IsInRrerr name m
rrerr_is name m h label = (bytes_eq-Decides name rrerr).0 (h label)

pub rrerr_back : (name : List ℕ) (m : Mode) → IsInRrerr name m → MayBe (is_rrerr name) m
rrerr_back name m h label = (bytes_eq-Decides name rrerr).1 (h label)

-- ---- records

pub tells_records : {E : Type 0} (o : Result Bool E) (records : List RecordDef) → length records ≤ 65535 → All (HasRecordRanges (length records)) records → AreDifferent (record_names records) → Tells o ((k : ℕ) → k < length records → IsBadRecord records k → ⊥) → Tells o (HaveRecordRanges records)
tells_records o records few each names = tells_same o ((k : ℕ) → k < length records → IsBadRecord records k → ⊥) (HaveRecordRanges records)
    (λ h. record { count = few; names = names; each = recursion_from_All (HasRecordRanges (length records)) records each; none_bad = h })
    (λ h. h.none_bad)

-- ---- data bricks

module _ {E : Type 0} (o : Result Bool E) (records : List RecordDef) (strings bricks : ℕ) where
  pub tells_outside : (P Q : Mode → Type 0) (fields : List Field) → ((m : Mode) → P m → Q m) → ((m : Mode) → Q m → P m) → Tells o (HaveOutsideRanges records strings bricks P fields) → Tells o (HaveOutsideRanges records strings bricks Q fields)
  tells_outside P Q fields to from = tells_same o (HaveOutsideRanges records strings bricks P fields) (HaveOutsideRanges records strings bricks Q fields)
      (λ h. record { fields = fields_same (length records) P Q to fields h.fields; size = h.size })
      (λ h. record { fields = fields_same (length records) Q P from fields h.fields; size = h.size })
