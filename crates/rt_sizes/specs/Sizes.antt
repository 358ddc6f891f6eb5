-- How many bytes values have, and how the fields of a record lie.
use Rattle.std.specs.Prelude.{◌≡◌, ℕ, zero, suc, ◌+◌, ◌*◌, ◌%◌, nat_le, Bool, true, if◌then◌else◌, List, [], ◌∷◌, Option, Some, None, option_map, slice_get, take}
use Rattle.rt_modes.specs.declared.mode.Field.{Field}
use Rattle.rt_modes.specs.declared.mode.Mode.{Mode, out-Mode}
use Rattle.rt_modes.specs.declared.mode.Mode.TheFolds.{fold-Mode}
use Rattle.rt_modes.specs.declared.mode.Mode.TheOpen.{Mode-F}
use Rattle.rt_modes.specs.declared.mode.RecordDef.{RecordDef}

abbrev pub even : ℕ → ℕ
even n = n + n % 2

-- the greatest size of a record, and of a data brick
abbrev pub most : ℕ
most = 57344

-- where a value begins that stands behind n bytes: a BYTE there, all else at an even place
abbrev pub begins : {A : Type 0} → Mode-F A → ℕ → ℕ
begins Mode-F.Byte n = n
begins _ n = even n

abbrev pub and_then : {A B : Type 0} → Option A → (A → Option B) → Option B
and_then None go_on = None
and_then (Some a) go_on = go_on a

-- ---- where the records have these sizes

module _ (record_size : ℕ → Option ℕ) where
  -- an array is a length word, then its elements
  abbrev pub size_layer : Mode-F (Option ℕ) → Option ℕ
  size_layer Mode-F.Byte = Some 1
  size_layer (Mode-F.Array n element) = option_map (λ s. even (2 + n * s)) element
  size_layer (Mode-F.Record r) = record_size r
  size_layer _ = Some 2

  -- how many bytes a value of a mode has
  abbrev pub size : Mode → Option ℕ
  size = fold-Mode (Option ℕ) size_layer

  -- where a field begins that stands behind n bytes, and where it ends
  abbrev pub field_begins : Field → ℕ → ℕ
  field_begins f n = begins (out-Mode f.mode) n

  abbrev pub field_end : Field → ℕ → Option ℕ
  field_end f n = option_map (λ s. field_begins f n + s) (size f.mode)

  -- where fields end that stand behind n bytes
  abbrev pub fields_end : List Field → ℕ → Option ℕ
  fields_end [] n = Some n
  fields_end (f ∷ fs) n = and_then (field_end f n) (fields_end fs)

  abbrev pub record_layer : Option (List Field) → Option ℕ
  record_layer None = None
  record_layer (Some fs) = option_map even (fields_end fs 0)

  -- Which of some fields, counted from i, is the one with which they pass the most, where they stand behind n bytes, and it and all before
  -- it have a size.
  abbrev pub passes_in : List Field → ℕ → ℕ → Option ℕ
  passes_in [] n i = None
  passes_in (f ∷ fs) n i = and_then (field_end f n) (λ e. if nat_le e most then passes_in fs e (i + 1) else Some i)

  abbrev pub offset_by : Option Field → Option ℕ → Option ℕ
  offset_by None e = None
  offset_by (Some f) e = option_map (field_begins f) e

  -- where field i begins
  abbrev pub offset : List Field → ℕ → Option ℕ
  offset fs i = offset_by (slice_get fs i) (fields_end (take i fs) 0)

-- ---- the records of a module

-- The records, and of each whether all its fields are known: where one isn't, the record has no size.
pub record Table : Type 0 where
  pub records : List RecordDef
  pub known : List Bool

abbrev pub fields_if : Option Bool → Option RecordDef → Option (List Field)
fields_if (Some true) (Some r) = Some r.fields
fields_if _ _ = None

abbrev pub fields_of : Table → ℕ → Option (List Field)
fields_of t k = fields_if (slice_get t.known k) (slice_get t.records k)

module _ (t : Table) where
  -- the sizes of the records that hold records less than d deep
  unfoldable pub within : ℕ → ℕ → Option ℕ
  within zero k = None
  within (suc d) k = record_layer (within d) (fields_of t k)

  -- a value of the mode has n bytes
  abbrev pub HasSize : Mode → ℕ → Type 0
  HasSize m n = (d : ℕ) × (size (within d) m ≡ Some n)

  abbrev pub RecordHasSize : ℕ → ℕ → Type 0
  RecordHasSize k n = (d : ℕ) × (within d k ≡ Some n)

  -- fields of a record or items of a data brick end behind n bytes
  abbrev pub End : List Field → ℕ → Type 0
  End fs n = (d : ℕ) × (fields_end (within d) fs 0 ≡ Some n)

  -- with field i they pass the most
  abbrev pub PassWith : List Field → ℕ → Type 0
  PassWith fs i = (d : ℕ) × (passes_in (within d) fs 0 0 ≡ Some i)

  -- field i begins behind n bytes
  abbrev pub Begins : List Field → ℕ → ℕ → Type 0
  Begins fs i n = (d : ℕ) × (offset (within d) fs i ≡ Some n)
