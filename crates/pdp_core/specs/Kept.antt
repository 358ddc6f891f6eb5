-- What an instruction that has no effect leaves of the registers, until its program counter is given back.
use Rattle.std.specs.Prelude.{◌≡◌, ℕ}
use Rattle.pdp_code.specs.declared.instruction.Reg.TheVariants.{Pc}
use Rattle.pdp_core.specs.declared.cpu.Regs.{Regs}
use Rattle.pdp_core.specs.declared.cpu.Stop.{Stop}
use Rattle.pdp_core.specs.declared.cpu.Stop.TheVariants.{Went, Trap as Service, Fault}
use Rattle.pdp_core.specs.Execute.{reg, with_reg}

-- all registers and flags but the program counter are as they were
abbrev pub AllButCounter : Regs → Regs → Type 0
AllButCounter old new = with_reg new Pc (reg old Pc) ≡ old

-- the registers after what stopped an instruction, with the program counter given back after a fault
abbrev pub turned_back : Stop → Regs → ℕ → Regs
turned_back (Fault kind at) g a = with_reg g Pc a
turned_back (Service n) g a = g
turned_back Went g a = g
