-- Where an operand is, as the code has it.
use Rattle.std.specs.Prelude.{◌%◌, Result, Ok, Err}
use Rattle.pdp_code.specs.First.{reg_of}
use Rattle.pdp_core.specs.declared.cpu.Regs.{Regs}
use Rattle.pdp_core.specs.declared.cpu.Failure.{Failure}
use Rattle.pdp_core.specs.declared.cpu.Place.{Place}
use Rattle.pdp_core.specs.declared.cpu.Place.TheVariants.{InRegister, InMemory, InCode}
use Rattle.pdp_core.specs.declared.cpu.Spot.{Spot}
use Rattle.pdp_core.specs.declared.cpu.Spot.TheVariants.{Register, Memory, Code}

abbrev pub place_of : Spot → Place
place_of (Register n) = InRegister (reg_of (n % 8))
place_of (Memory a) = InMemory a
place_of (Code a x) = InCode a x

-- a place that was found, and the registers after it
abbrev pub placed : Result Spot Failure → Regs → Result (Place × Regs) Failure
placed (Ok s) g = Ok (place_of s, g)
placed (Err e) g = Err e
