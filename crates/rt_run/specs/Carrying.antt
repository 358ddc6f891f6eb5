-- One instruction of the running task, with its service.
use Rattle.std.specs.Prelude.{◌≡◌, ◌≢◌, ℕ, ◌+◌, ◌%◌, Bool, true, false, List, [], ◌∷◌, ◌++◌, length, slice_get, Option, Some, None, Result, Ok, Err}
use Rattle.std.specs.Io.KnownBytes.{Keeps, Appends}
use Rattle.pdp_code.specs.declared.instruction.Reg.TheVariants.{Pc, R0}
use Rattle.pdp_core.specs.declared.cpu.Done.{Done}
use Rattle.pdp_core.specs.declared.cpu.Done.TheVariants.{Went as Finished, Stopped}
use Rattle.pdp_core.specs.declared.cpu.Kind.{Kind}
use Rattle.pdp_core.specs.declared.cpu.Regs.{Regs}
use Rattle.pdp_core.specs.declared.cpu.Stop.{Stop}
use Rattle.pdp_core.specs.declared.cpu.Stop.TheVariants.{Went as Went_on, Trap, Fault}
use Rattle.pdp_core.specs.Execute.{reg, with_reg}
use Rattle.rt_rules.specs.Roster.{Roster}
use Rattle.rt_tasks.specs.Parts.{Sharing}
use Rattle.rt_tasks.specs.Steps.{Steps}
use Rattle.rt_tasks.specs.Traps.{trap_at}
use Rattle.rt_run.specs.declared.service.Answer.{Answer}
use Rattle.rt_run.specs.declared.carry.Carried.{Carried}
use Rattle.rt_run.specs.declared.carry.Carried.TheVariants.{Went, Served, Fault as Failed, ReadFault, WriteFault}
use Rattle.rt_run.specs.declared.carry.Granted.{Granted}
use Rattle.rt_run.specs.declared.carry.Granted.TheVariants.{Nothing, Gave, Took}
use Rattle.rt_run.specs.Services.{request, serve, asked_by, answered}
use Rattle.rt_run.specs.Inputs.{Feed, Gives}

-- a call of the input gave this byte, or the end
abbrev pub Takes : Feed → Option ℕ → Feed → Type 0
Takes from None to = Gives from [] true to
Takes from (Some b) to = Gives from (b ∷ []) false to

-- the supervisor's service of TRAP n for task i takes the rules and the task's registers from r and g to r2 and h
pub record IsServed (i n : ℕ) (r : Roster) (g : Regs) (r2 : Roster) (h : Regs) : Type 0 where
  pub answer : Answer
  pub service : (taken : ℕ) (next : Option ℕ) → serve r taken next i (request n (reg g R0)) ≡ record { rules = r2; taken = taken; bytes = []; answer = answer }
  pub given : h ≡ answered g answer

-- An instruction of task i and its service: what the console, the task and the rules were, and what they are then. The service is that
-- of the bytes that the input gave, whatever comes behind them.
pub record Carries (i : ℕ) (from : Feed) (written : Option (List ℕ)) (g : Regs) (s : Sharing) (r : Roster) (to : Feed) (written2 : Option (List ℕ)) (h : Regs) (s2 : Sharing) (r2 : Roster) : Type 0 where
  pub stop : Stop
  pub after : Regs
  pub given : List ℕ  -- by the input
  pub over : Bool  -- whether it gave the end
  pub bytes : List ℕ  -- put
  pub answer : Answer
  pub steps : Steps g s stop after s2
  pub goes : (kind : Kind) (at : ℕ) → stop ≡ Fault kind at → ⊥
  pub service : (taken : ℕ) (rest : List ℕ) → (over ≡ true → rest ≡ []) → serve r taken (slice_get (given ++ rest) 0) i (asked_by stop after) ≡ record { rules = r2; taken = taken + length given; bytes = bytes; answer = answer }
  pub answers : h ≡ answered after answer
  pub gives : Gives from given over to
  pub puts : Appends written written2 bytes

-- ---- what the console grants

-- the number that RRIN answers
abbrev pub byte_or_end : Option ℕ → ℕ
byte_or_end None = 4
byte_or_end (Some b) = b

-- the input gave a byte, or the end, as this number
pub record Reads (n : ℕ) (from to : Feed) : Type 0 where
  pub next : Option ℕ
  pub takes : Takes from next to
  pub number : n ≡ byte_or_end next

-- what the input granted TRAP 1
abbrev pub IsRead : Result Granted Carried → Feed → Feed → Type 0
IsRead (Ok (Gave n)) from to = Reads n from to
IsRead (Err ReadFault) from to = Gives from [] false to
IsRead _ from to = ⊥

-- what the output granted TRAP 2, with the bytes written before and after it
abbrev pub IsWritten : Result Granted Carried → Option (List ℕ) → ℕ → Option (List ℕ) → Type 0
IsWritten (Ok Took) written b written2 = Appends written written2 (b ∷ [])
IsWritten (Err WriteFault) written b written2 = Keeps written written2
IsWritten _ written b written2 = ⊥

-- what is granted belongs to the TRAP of this number
abbrev pub IsGranted : Granted → ℕ → Type 0
IsGranted Nothing n = (n ≢ 1) × (n ≢ 2)
IsGranted (Gave v) n = n ≡ 1
IsGranted Took n = n ≡ 2

-- what the console granted TRAP n
abbrev pub IsAsked : Result Granted Carried → ℕ → Feed → Option (List ℕ) → Regs → Feed → Option (List ℕ) → Type 0
IsAsked (Ok Nothing) n from written g to written2 = IsGranted Nothing n × (to ≡ from) × (written2 ≡ written)
IsAsked (Ok (Gave v)) n from written g to written2 = IsGranted (Gave v) n × Reads v from to × (written2 ≡ written)
IsAsked (Ok Took) n from written g to written2 = IsGranted Took n × (to ≡ from) × Appends written written2 (reg g R0 % 256 ∷ [])
IsAsked (Err ReadFault) n from written g to written2 = (n ≡ 1) × Gives from [] false to × (written2 ≡ written)
IsAsked (Err WriteFault) n from written g to written2 = (n ≡ 2) × (to ≡ from) × Keeps written written2
IsAsked _ n from written g to written2 = ⊥

-- the service of TRAP n for task i, for which the console granted this
abbrev pub IsServedBy : Carried → Granted → ℕ → ℕ → Roster → Regs → Roster → Regs → Type 0
IsServedBy x Nothing i n r g r2 h = (x ≡ Served) × IsServed i n r g r2 h
IsServedBy x (Gave v) i n r g r2 h = (x ≡ Went) × (h ≡ with_reg g R0 v) × (r2 ≡ r)
IsServedBy x Took i n r g r2 h = (x ≡ Went) × (h ≡ g) × (r2 ≡ r)

-- ---- what a stop comes to

-- how an instruction ended, of which the code tells beside what became of one that was stopped
abbrev pub carried_of : Done → Carried → Carried
carried_of Finished x = Went
carried_of Stopped x = x

-- the service of TRAP n for task i, whose word stands at an address, for which the console granted this or failed so
abbrev pub EndsBy : Result Granted Carried → Carried → ℕ → ℕ → ℕ → Regs → Roster → Regs → Roster → Type 0
EndsBy (Ok w) x i n at g r h r2 = IsServedBy x w i n r g r2 h
EndsBy (Err e) x i n at g r h r2 = (x ≡ e) × (h ≡ with_reg g Pc at) × (r2 ≡ r)

-- TRAP n of task i was answered so
pub record IsTrapAnswered (n : ℕ) (x : Carried) (i at : ℕ) (from : Feed) (written : Option (List ℕ)) (g : Regs) (r : Roster) (to : Feed) (written2 : Option (List ℕ)) (h : Regs) (r2 : Roster) : Type 0 where
  pub granted : Result Granted Carried
  pub asked : IsAsked granted n from written g to written2
  pub ends : EndsBy granted x i n at g r h r2

-- this is what a stop of task i comes to, of an instruction that stood at an address: what the console, the task and the rules were behind
-- the instruction, and what they are then
abbrev pub IsAnswered : Stop → Carried → ℕ → ℕ → Feed → Option (List ℕ) → Regs → Roster → Feed → Option (List ℕ) → Regs → Roster → Type 0
IsAnswered Went_on x i at from written g r to written2 h r2 = (x ≡ Went) × (to ≡ from) × (written2 ≡ written) × (h ≡ g) × (r2 ≡ r)
IsAnswered (Trap n) x i at from written g r to written2 h r2 = IsTrapAnswered n x i at from written g r to written2 h r2
IsAnswered (Fault kind a) x i at from written g r to written2 h r2 = (x ≡ Failed kind a) × (to ≡ from) × (written2 ≡ written) × (h ≡ g) × (r2 ≡ r)

-- ---- the ways in which an instruction ends

-- TRAP 1, which got this number
pub record Given (n : ℕ) (g : Regs) (s : Sharing) (h : Regs) (s2 : Sharing) : Type 0 where
  pub after : Regs
  pub steps : Steps g s (Trap 1) after s2
  pub answers : h ≡ with_reg after R0 n

-- TRAP 2, which keeps its argument
pub record Putting (g : Regs) (s : Sharing) (h : Regs) (s2 : Sharing) : Type 0 where
  pub steps : Steps g s (Trap 2) h s2
  pub argument : reg h R0 ≡ reg g R0

-- an instruction that asked the supervisor
pub record Calling (i : ℕ) (g : Regs) (s : Sharing) (r : Roster) (h : Regs) (s2 : Sharing) (r2 : Roster) : Type 0 where
  pub number : ℕ
  pub after : Regs
  pub no_read : number ≢ 1
  pub no_put : number ≢ 2
  pub steps : Steps g s (Trap number) after s2
  pub served : IsServed i number r after r2 h

-- one that faulted
pub record Faulting (kind : Kind) (at : ℕ) (g : Regs) (s : Sharing) (r : Roster) (h : Regs) (s2 : Sharing) (r2 : Roster) : Type 0 where
  pub steps : Steps g s (Fault kind at) h s2
  pub regs : h ≡ g
  pub shared : s2 ≡ s
  pub rules : r2 ≡ r

-- a fault of the console, at a TRAP of this number: nothing of the instruction is done
pub record Refuses (n : ℕ) (g : Regs) (s : Sharing) (r : Roster) (h : Regs) (s2 : Sharing) (r2 : Roster) : Type 0 where
  pub trap : trap_at s.code (reg g Pc) ≡ Some n
  pub regs : h ≡ g
  pub shared : s2 ≡ s
  pub rules : r2 ≡ r

-- how an instruction of task i ended
abbrev pub IsCarried : Carried → ℕ → Feed → Option (List ℕ) → Regs → Sharing → Roster → Feed → Option (List ℕ) → Regs → Sharing → Roster → Type 0
IsCarried Went i from written g s r to written2 h s2 r2 = Carries i from written g s r to written2 h s2 r2 × (r2 ≡ r)
IsCarried Served i from written g s r to written2 h s2 r2 = Carries i from written g s r to written2 h s2 r2
IsCarried (Failed kind at) i from written g s r to written2 h s2 r2 = Faulting kind at g s r h s2 r2 × (to ≡ from) × (written2 ≡ written)
IsCarried ReadFault i from written g s r to written2 h s2 r2 = Refuses 1 g s r h s2 r2 × Gives from [] false to × (written2 ≡ written)
IsCarried WriteFault i from written g s r to written2 h s2 r2 = Refuses 2 g s r h s2 r2 × (to ≡ from) × Keeps written written2
