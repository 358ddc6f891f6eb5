-- Where the parts of a value lie in it, by the path of fields and elements that leads to them.
use Rattle.std.specs.Prelude.{◌≡◌, ◌⊎◌, ℕ, ◌+◌, ◌*◌, ◌<◌, ◌≤◌, List, [], ◌∷◌, Option, Some, slice_get}
use Rattle.rt_modes.specs.declared.mode.Field.{Field}
use Rattle.rt_modes.specs.declared.mode.Mode.{Mode, out-Mode}
use Rattle.rt_modes.specs.declared.mode.Mode.TheOpen.{Mode-F}
use Rattle.rt_modes.specs.declared.mode.RecordDef.{RecordDef}
use Rattle.rt_sizes.specs.Sizes.{even, size, fields_end, offset}

-- how many bytes of a place are its own: one of a BYTE, two of any other value, the length word of an array, none of a record
abbrev pub room_by : Mode-F Mode → ℕ
room_by Mode-F.Byte = 1
room_by (Mode-F.Record r) = 0
room_by _ = 2

abbrev pub Apart : ℕ → ℕ → ℕ → ℕ → Type 0
Apart a n b k = (a + n ≤ b) ⊎ (b + k ≤ a)

-- the records of a module, and their sizes
module _ (records : List RecordDef) (S : ℕ → Option ℕ) where
  -- all records have a size, which is that of their fields
  pub record AreSizes : Type 0 where
    pub all : (r : ℕ) (d : RecordDef) → slice_get records r ≡ Some d → (e : ℕ) × (fields_end S d.fields 0 ≡ Some e) × (S r ≡ Some (even e))
    pub only : (r n : ℕ) → S r ≡ Some n → (d : RecordDef) × (slice_get records r ≡ Some d)

  -- field k of a record of mode m, which begins a bytes on, is of mode e
  pub record IsField (k : ℕ) (m e : Mode) (a : ℕ) : Type 0 where
    pub number : ℕ
    pub def : RecordDef
    pub field : Field
    pub is : out-Mode m ≡ Mode-F.Record number
    pub at : slice_get records number ≡ Some def
    pub has : slice_get def.fields k ≡ Some field
    pub mode : field.mode ≡ e
    pub begins : offset S def.fields k ≡ Some a

  -- element k of an array of mode m
  pub record IsElement (k : ℕ) (m e : Mode) (a : ℕ) : Type 0 where
    pub count : ℕ
    pub bytes : ℕ
    pub is : out-Mode m ≡ Mode-F.Array count e
    pub in_it : k < count
    pub sized : size S e ≡ Some bytes
    pub begins : a ≡ 2 + bytes * k

  abbrev pub IsPart : ℕ → Mode → Mode → ℕ → Type 0
  IsPart k m e a = IsField k m e a ⊎ IsElement k m e a

  -- a path leads from a value of mode m to its part of mode w, which begins so many bytes on
  abbrev pub Leads : List ℕ → Mode → Mode → ℕ → Type 0
  Leads [] m w o = (m ≡ w) × (o ≡ 0)
  Leads (k ∷ ks) m w o = (e : Mode) × (a : ℕ) × (b : ℕ) × IsPart k m e a × Leads ks e w b × (o ≡ a + b)
