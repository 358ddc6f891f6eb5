-- Sizes as they are counted: up to the most that a record may have.
use Rattle.std.specs.Prelude.{◌≡◌, ℕ, suc, ◌+◌, ◌*◌, ◌==◌, nat_le, Bool, true, false, if◌then◌else◌, List, [], ◌∷◌, length, Option, Some, None, option_map, slice_get, take}
use Rattle.rt_modes.specs.declared.mode.Field.{Field}
use Rattle.rt_modes.specs.declared.mode.Mode.{Mode, out-Mode}
use Rattle.rt_modes.specs.declared.mode.Mode.TheFolds.{fold-Mode}
use Rattle.rt_modes.specs.declared.mode.Mode.TheOpen.{Mode-F}
use Rattle.rt_modes.specs.declared.mode.RecordDef.{RecordDef}
use Rattle.rt_sizes.specs.declared.size.Size.{Size}
use Rattle.rt_sizes.specs.declared.size.Size.TheVariants as size
use Rattle.rt_sizes.specs.Sizes.{even, most, begins, and_then, Table, within, fields_of}

-- what is kept of a number of bytes
abbrev pub counted : ℕ → Size
counted n = if nat_le n most then size.Bytes n else size.TooLarge

-- so many elements, behind a length word
abbrev pub elements : ℕ → Size → Size
elements n (size.Bytes s) = counted (even (2 + n * s))
elements n size.TooLarge = if n == 0 then size.Bytes 2 else size.TooLarge

-- a value behind others
abbrev pub behind : Mode-F Mode → Size → Size → Size
behind m (size.Bytes n) (size.Bytes s) = counted (begins m n + s)
behind m _ _ = size.TooLarge

-- where a value begins that stands behind others
abbrev pub place : Mode-F Mode → Size → Size
place m (size.Bytes n) = counted (begins m n)
place m size.TooLarge = size.TooLarge

abbrev pub rounded : Size → Size
rounded (size.Bytes n) = counted (even n)
rounded size.TooLarge = size.TooLarge

abbrev pub is_within : Size → Bool
is_within (size.Bytes n) = true
is_within size.TooLarge = false

-- what a list of sizes says of a record
abbrev pub listed : Option (Option Size) → Option Size
listed None = None
listed (Some s) = s

abbrev pub size_in : List (Option Size) → ℕ → Option Size
size_in sizes k = listed (slice_get sizes k)

module _ (sizes : List (Option Size)) where
  abbrev pub size_layer : Mode-F (Option Size) → Option Size
  size_layer Mode-F.Byte = Some (size.Bytes 1)
  size_layer (Mode-F.Array n element) = option_map (elements n) element
  size_layer (Mode-F.Record r) = size_in sizes r
  size_layer _ = Some (size.Bytes 2)

  abbrev pub size_of : Mode → Option Size
  size_of = fold-Mode (Option Size) size_layer

  abbrev pub field_end : Field → Size → Option Size
  field_end f n = option_map (behind (out-Mode f.mode) n) (size_of f.mode)

  abbrev pub fields_end : List Field → Size → Option Size
  fields_end [] n = Some n
  fields_end (f ∷ fs) n = and_then (field_end f n) (fields_end fs)

  abbrev pub record_layer : Option (List Field) → Option Size
  record_layer None = None
  record_layer (Some fs) = option_map rounded (fields_end fs (size.Bytes 0))

  abbrev pub passes_in : List Field → Size → ℕ → Option ℕ
  passes_in [] n i = None
  passes_in (f ∷ fs) n i = and_then (field_end f n) (λ e. if is_within e then passes_in fs e (i + 1) else Some i)

  abbrev pub offset_by : Option Field → Option Size → Option Size
  offset_by None e = None
  offset_by (Some f) e = option_map (place (out-Mode f.mode)) e

  abbrev pub offset : List Field → ℕ → Option Size
  offset fs i = offset_by (slice_get fs i) (fields_end (take i fs) (size.Bytes 0))

-- how many records have no size in the list
abbrev pub missing : List (Option Size) → ℕ
missing [] = 0
missing (None ∷ sizes) = suc (missing sizes)
missing (Some s ∷ sizes) = missing sizes

abbrev pub one_if : Bool → ℕ
one_if true = 1
one_if false = 0

-- ---- the records of a table

abbrev pub table : List RecordDef → List Bool → Table
table rs bs = record { records = rs; known = bs }

module _ (t : Table) where
  -- the sizes that are listed are right
  abbrev pub AreRight : List (Option Size) → Type 0
  AreRight sizes = (d : ℕ) × ((k : ℕ) (s : Size) → size_in sizes k ≡ Some s → option_map counted (within t d k) ≡ Some s)

  -- none is missing
  abbrev pub AreAll : List (Option Size) → Type 0
  AreAll sizes = (k d n : ℕ) → within t d k ≡ Some n → size_in sizes k ≡ Some (counted n)

  pub record AreSizes (sizes : List (Option Size)) : Type 0 where
    pub one_each : length sizes ≡ length t.records
    pub right : AreRight sizes
    pub all : AreAll sizes

  -- what is listed tells no size of record k that isn't listed
  abbrev pub IsSettled : List (Option Size) → ℕ → Type 0
  IsSettled sizes k = size_in sizes k ≡ None → record_layer sizes (fields_of t k) ≡ None
