-- Where the part begins to which a path leads, as a function.
use Rattle.std.specs.Prelude.{ℕ, ◌+◌, ◌*◌, List, [], ◌∷◌, Option, Some, None, slice_get}
use Rattle.rt_modes.specs.declared.mode.Field.{Field}
use Rattle.rt_modes.specs.declared.mode.Mode.{Mode, out-Mode}
use Rattle.rt_modes.specs.declared.mode.Mode.TheOpen.{Mode-F}
use Rattle.rt_modes.specs.declared.mode.RecordDef.{RecordDef}
use Rattle.rt_sizes.specs.Sizes.{size, offset}

abbrev pub number : Option ℕ → ℕ
number None = 0
number (Some n) = n

-- a number that goes by what is there
abbrev pub by : {A : Type 0} → (A → ℕ) → Option A → ℕ
by f None = 0
by f (Some x) = f x

abbrev pub fields_in : Option RecordDef → List Field
fields_in None = []
fields_in (Some d) = d.fields

abbrev pub mode_of : Option Field → Option Mode
mode_of None = None
mode_of (Some f) = Some f.mode

module _ (records : List RecordDef) (S : ℕ → Option ℕ) where
  -- where part k begins of a value of a mode, and of what mode it is
  abbrev pub part_begins : ℕ → Mode-F Mode → ℕ
  part_begins k (Mode-F.Record r) = number (offset S (fields_in (slice_get records r)) k)
  part_begins k (Mode-F.Array n e) = 2 + number (size S e) * k
  part_begins k _ = 0

  abbrev pub part_is : ℕ → Mode-F Mode → Option Mode
  part_is k (Mode-F.Record r) = mode_of (slice_get (fields_in (slice_get records r)) k)
  part_is k (Mode-F.Array n e) = Some e
  part_is k _ = None

  abbrev pub reach : List ℕ → Mode → ℕ
  reach [] m = 0
  reach (k ∷ ks) m = part_begins k (out-Mode m) + by (reach ks) (part_is k (out-Mode m))
