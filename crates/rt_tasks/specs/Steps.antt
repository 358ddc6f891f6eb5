-- One instruction of a task.
use Rattle.std.specs.Prelude.{◌≡◌, ℕ, ◌≤◌, length, Some}
use Rattle.pdp_code.specs.declared.instruction.Reg.TheVariants.{Pc}
use Rattle.pdp_core.specs.declared.cpu.Kind.{Kind}
use Rattle.pdp_core.specs.declared.cpu.Regs.{Regs}
use Rattle.pdp_core.specs.declared.cpu.Stop.{Stop}
use Rattle.pdp_core.specs.declared.cpu.Stop.TheVariants.{Trap, Fault}
use Rattle.pdp_core.specs.Protection.{protected}
use Rattle.pdp_core.specs.Execute.{execute, past_word, reg}
use Rattle.rt_tasks.specs.Parts.{Sharing}
use Rattle.rt_tasks.specs.Traps.{trap_at}
use Rattle.rt_tasks.specs.Whole.{whole}

-- An instruction takes the registers and the memory of a task from g and s to h and r: over the whole memory, whatever the bytes of
-- the other tasks are, it does what the definition of one instruction says, and the bytes of the others stay.
pub record Steps (g : Regs) (s : Sharing) (stop : Stop) (h : Regs) (r : Sharing) : Type 0 where
  pub executed : (others : ℕ → ℕ) → execute (protected s.places (whole s others)) g ≡ record { stop = stop; regs = h; world = protected s.places (whole r others) }
  pub code : r.code ≡ s.code
  pub marks : r.marks ≡ s.marks
  pub places : r.places ≡ s.places
  pub bytes : length r.bytes ≡ length s.bytes
  pub own : length r.own ≡ length s.own

-- a fault changes nothing
abbrev pub KeepsAtFault : Regs → Sharing → Stop → Regs → Sharing → Type 0
KeepsAtFault g s stop h r = (kind : Kind) (at : ℕ) → stop ≡ Fault kind at → (h ≡ g) × (r ≡ s)

-- a service is asked for just where its TRAP stands, and nothing changes but the program counter
abbrev pub AsksByTrap : Regs → Sharing → Stop → Regs → Sharing → Type 0
AsksByTrap g s stop h r = (n : ℕ) → stop ≡ Trap n → (trap_at s.code (reg g Pc) ≡ Some n) × (h ≡ past_word g) × (r ≡ s)

abbrev pub AnswersTrap : Regs → Sharing → Stop → Type 0
AnswersTrap g s stop = (n : ℕ) → trap_at s.code (reg g Pc) ≡ Some n → 1 ≤ n → n ≤ 11 → stop ≡ Trap n
