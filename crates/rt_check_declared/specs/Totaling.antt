-- The item with which a data brick is too large, as it is found.
use Rattle.std.specs.Prelude.{◌≡◌, ℕ, List, Option, Some, None, slice_get}
use Rattle.rt_check_declared.specs.declared.parts.Part.{Part}
use Rattle.rt_modes.specs.declared.mode.Field.{Field}
use Rattle.rt_check_faults.specs.declared.fault.CheckFault.{CheckFault}
use Rattle.rt_check_faults.specs.declared.fault.CheckFault.TheVariants as fault
use Rattle.rt_sizes.specs.Sizes.{Table, PassWith}

-- with item i, if any, the items pass the most, where all are known
pub record IsPassing (t : Table) (fs : Option (List Field)) (i : Option ℕ) : Type 0 where
  pub found : (k : ℕ) → i ≡ Some k → (xs : List Field) × (fs ≡ Some xs) × PassWith t xs k
  pub only : (xs : List Field) (k : ℕ) → fs ≡ Some xs → PassWith t xs k → i ≡ Some k

abbrev pub fault_of : Option Part → Option CheckFault
fault_of None = None
fault_of (Some p) = Some (fault.BadStart p.at)

abbrev pub fault_at : List Part → Option ℕ → Option CheckFault
fault_at ps None = None
fault_at ps (Some i) = fault_of (slice_get ps i)
