-- The start of an item for which nothing is written: 0. A REF or a PROC, and what holds one, has none. Of a record the fields that are
-- known are judged; one whose mode can't be known has LABEL.
use Rattle.std.specs.Prelude.{◌≡◌, ℕ, zero, suc, ◌&&◌, Bool, true, false, List, [], ◌∷◌, length, map, Option, Some, None, slice_get, replicate}
use Rattle.rt_modes.specs.declared.mode.Field.{Field}
use Rattle.rt_modes.specs.declared.mode.Mode.{Mode, out-Mode}
use Rattle.rt_modes.specs.declared.mode.Mode.TheOpen.{Mode-F}
use Rattle.rt_modes.specs.declared.mode.RecordDef.{RecordDef}
use Rattle.rt_tree_nodes.specs.declared.brick.DataStart.{DataStart}
use Rattle.rt_tree_nodes.specs.declared.brick.DataStart.TheVariants as start

-- ---- whether there is one, where it is known of records

module _ (known : ℕ → Bool) where
  -- An element is no array.
  abbrev pub element_has : Mode-F Mode → Bool
  element_has Mode-F.Byte = true
  element_has Mode-F.Int = true
  element_has Mode-F.Frac = true
  element_has Mode-F.Label = true
  element_has (Mode-F.Record r) = known r
  element_has _ = false

  abbrev pub has : Mode-F Mode → Bool
  has (Mode-F.Array n m) = element_has (out-Mode m)
  has l = element_has l

  abbrev pub all_have : List Field → Bool
  all_have [] = true
  all_have (f ∷ fs) = has (out-Mode f.mode) && all_have fs

  abbrev pub fields_have : Option RecordDef → Bool
  fields_have None = false
  fields_have (Some d) = all_have d.fields

-- ---- which it is

module _ (made : ℕ → DataStart) where
  abbrev pub element_made : Mode-F Mode → DataStart
  element_made (Mode-F.Record r) = made r
  element_made _ = start.Number 0

  abbrev pub default_by : Mode-F Mode → DataStart
  default_by (Mode-F.Array n m) = start.List (replicate n (element_made (out-Mode m)))
  default_by l = element_made l

  abbrev pub fields_made : Option RecordDef → DataStart
  fields_made None = start.Number 0
  fields_made (Some d) = start.List (map (λ f. default_by (out-Mode f.mode)) d.fields)

-- ---- of the records of a module

abbrev pub is_there : Option RecordDef → Bool
is_there None = false
is_there (Some d) = true

-- what a list says of a number
abbrev pub said : Option Bool → Bool
said None = false
said (Some b) = b

abbrev pub listed : List Bool → ℕ → Bool
listed known r = said (slice_get known r)

module _ (records : List RecordDef) where
  -- By the records that are held less than so many deep; those further in aren't looked at.
  unfoldable pub record_has : ℕ → ℕ → Bool
  record_has zero r = is_there (slice_get records r)
  record_has (suc levels) r = fields_have (record_has levels) (slice_get records r)

  unfoldable pub record_made : ℕ → ℕ → DataStart
  record_made zero r = start.Number 0
  record_made (suc levels) r = fields_made (record_made levels) (slice_get records r)

  -- Each record that a record holds stands less deep in it than there are records.
  abbrev pub has_default : Mode → Bool
  has_default m = has (record_has (length records)) (out-Mode m)

  -- a list says it of each record
  abbrev pub AreDefaults : List Bool → Type 0
  AreDefaults known = listed known ≡ record_has (length records)

  abbrev pub default : Mode → DataStart
  default m = default_by (record_made (length records)) (out-Mode m)
