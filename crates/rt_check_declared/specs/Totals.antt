-- Data bricks that are too large.
use Rattle.std.specs.Prelude.{◌≡◌, ℕ, List, [], ◌∷◌, Option, Some, None, option_map, slice_get}
use Rattle.rt_check_declared.specs.declared.parts.Given.{Given}
use Rattle.rt_check_declared.specs.declared.parts.Given.TheVariants as given
use Rattle.rt_check_declared.specs.declared.parts.Part.{Part}
use Rattle.rt_modes.specs.declared.mode.Field.{Field}
use Rattle.rt_check_faults.specs.declared.fault.CheckFault.{CheckFault}
use Rattle.rt_check_faults.specs.declared.fault.CheckFault.TheVariants as fault
use Rattle.rt_sizes.specs.Sizes.{Table, PassWith}

abbrev pub with_field : List ℕ → Given → Option (List Field) → Option (List Field)
with_field n (given.Mode m) fs = option_map (λ rest. record { name = n; mode = m } ∷ rest) fs
with_field n given.Unknown fs = None

-- the items as fields, where the modes of all are known
abbrev pub all_fields : List Part → Option (List Field)
all_fields [] = Some []
all_fields (p ∷ ps) = with_field p.name p.has (all_fields ps)

-- A data brick that holds an unfit item isn't judged as a whole; else the item with which it passes 57,344 bytes has a fault at its
-- name.
pub data LargeFault (t : Table) (ps : List Part) : CheckFault → Type 0 where
  too_large : {fs : List Field} {i : ℕ} {p : Part} → all_fields ps ≡ Some fs → PassWith t fs i → slice_get ps i ≡ Some p → LargeFault t ps (fault.BadStart p.at)
