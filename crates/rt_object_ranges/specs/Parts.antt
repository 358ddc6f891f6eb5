-- The ranges of what an object has many of, one by one.
use Rattle.std.specs.Prelude.{◌≡◌, ℕ, ◌*◌, ◌<◌, ◌≤◌, Bool, true, false, List, length, IsTrue}
use Rattle.std.specs.List.{AllByRecursion}
use Rattle.rt_modes.specs.Spelling.{MayStand}
use Rattle.rt_modes.specs.declared.mode.Field.{Field}
use Rattle.rt_modes.specs.declared.mode.Mode.{Mode, out-Mode}
use Rattle.rt_modes.specs.declared.mode.Mode.TheOpen.{Mode-F}
use Rattle.rt_object.specs.Ranges.{IsByte, IsLabel, IsName, IsNamed, IsWord}
use Rattle.rt_object.specs.declared.object.Relocation.{Relocation}

-- a mode is a label only where labels may stand
abbrev pub MayBe : Bool → Mode → Type 0
MayBe labels m = IsLabel m → IsTrue labels

abbrev pub is_record_layer : Mode-F Mode → Bool
is_record_layer (Mode-F.Record k) = true
is_record_layer _ = false

-- whether a mode is a record
abbrev pub is_record : Mode → Bool
is_record m = is_record_layer (out-Mode m)

-- one field, over so many records
pub record HasFieldRanges (records : ℕ) (labels : Bool) (f : Field) : Type 0 where
  pub name : IsName f.name
  pub stands : MayStand records f.mode
  pub label : MayBe labels f.mode

-- one relocation of a part of so many places, of which each is a multiple of step
pub record HasRelocationRanges (strings bricks step places : ℕ) (r : Relocation) : Type 0 where
  pub inside : r.place < places
  pub multiple : (k : ℕ) × (r.place ≡ step * k)
  pub named : IsNamed strings bricks r.of
  pub offset : IsWord r.offset

-- one string
abbrev pub IsString : List ℕ → Type 0
IsString s = (length s ≤ 8191) × AllByRecursion IsByte s
