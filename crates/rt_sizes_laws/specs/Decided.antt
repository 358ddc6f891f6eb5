-- Whether a record contains another, whether a mode has a size and with which field a brick passes the most can be told, each.
use Rattle.std.specs.Prelude.{◌≡◌, ◌⊎◌, ℕ, List}
use Rattle.rt_modes.specs.declared.mode.Field.{Field}
use Rattle.rt_modes.specs.declared.mode.Mode.{Mode}
use Rattle.rt_modes.specs.declared.mode.RecordDef.{RecordDef}
use Rattle.rt_sizes.specs.Containing.{Contains}
use Rattle.rt_sizes.specs.Sizes.{Table, HasSize, PassWith}

-- it is so, or it isn't
abbrev pub IsDecided : Type 0 → Type 0
IsDecided A = A ⊎ (A → ⊥)

abbrev pub RingsAreDecided : Type 0
RingsAreDecided = (records : List RecordDef) (r s : ℕ) → IsDecided (Contains records r s)

abbrev pub SizesAreDecided : Type 0
SizesAreDecided = (t : Table) (m : Mode) → IsDecided ((n : ℕ) × HasSize t m n)

-- Fields pass the most with one field, or with none, ..
abbrev pub PassesAreDecided : Type 0
PassesAreDecided = (t : Table) (fs : List Field) → IsDecided ((i : ℕ) × PassWith t fs i)

-- .. and never with two.
abbrev pub OnePasses : Type 0
OnePasses = (t : Table) (fs : List Field) (i j : ℕ) → PassWith t fs i → PassWith t fs j → i ≡ j
