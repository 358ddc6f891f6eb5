-- TRAPs and marks in the code.
use Rattle.std.specs.Prelude.{ℕ, ◌/◌, ◌%◌, ◌==◌, if◌then◌else◌, List, Option, Some, None, slice_index, slice_get}
use Rattle.pdp_code.specs.declared.instruction.Instr.{Instr}
use Rattle.pdp_code.specs.declared.instruction.Instr.TheVariants.{Trap}
use Rattle.pdp_code.specs.First.{first_of}

-- the mark of the code word at an address; none stands at an odd one, or outside the code
abbrev pub mark_of : List ℕ → ℕ → ℕ
mark_of marks a = if a % 2 == 0 then slice_index marks (a / 2) else 0

abbrev pub trap_number : Option Instr → Option ℕ
trap_number (Some (Trap n)) = Some n
trap_number _ = None

-- the number of the TRAP that a word is
abbrev pub trap_in : Option ℕ → Option ℕ
trap_in None = None
trap_in (Some w) = trap_number (first_of w)

-- the number of the TRAP whose word stands at an address; none stands at an odd one, or outside the code
abbrev pub trap_at : List ℕ → ℕ → Option ℕ
trap_at code a = if a % 2 == 0 then trap_in (slice_get code (a / 2)) else None
