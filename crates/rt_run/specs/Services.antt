-- What a TRAP asks for, and what its task gets. The console is asked by TRAP 1 and 2, the supervisor by 3 to 11.
use Rattle.std.specs.Prelude.{ℕ, ◌+◌, ◌%◌, ◌==◌, if◌then◌else◌, List, [], ◌∷◌, Option, Some, None}
use Rattle.pdp_code.specs.declared.instruction.Reg.TheVariants.{R0, R1}
use Rattle.pdp_core.specs.declared.cpu.Regs.{Regs}
use Rattle.pdp_core.specs.declared.cpu.Stop.{Stop}
use Rattle.pdp_core.specs.declared.cpu.Stop.TheVariants.{Went, Trap, Fault}
use Rattle.pdp_core.specs.Execute.{reg, with_reg}
use Rattle.rt_rules.specs.declared.service.Svc.{Svc}
use Rattle.rt_rules.specs.declared.service.Svc.TheVariants.{Delay, Wait, Signal, Secure, Release, Clock, TaskNo, Gel, End}
use Rattle.rt_rules.specs.declared.service.Outcome.{Outcome}
use Rattle.rt_rules.specs.declared.service.Outcome.TheVariants.{Go, Error as Refused}
use Rattle.rt_rules.specs.Roster.{Roster}
use Rattle.rt_run.specs.declared.service.Request.{Request}
use Rattle.rt_run.specs.declared.service.Request.TheVariants.{Nothing, Reads, Puts, Calls}
use Rattle.rt_run.specs.declared.service.Answer.{Answer}
use Rattle.rt_run.specs.declared.service.Answer.TheVariants.{Silence, Value, Number}
use Rattle.rt_rules.specs.Rules as rules

-- the service of TRAP 3 to 11 with this argument
abbrev pub service : ℕ → ℕ → Svc
service n x =
    if n == 3 then Delay x else
    if n == 4 then Wait x else
    if n == 5 then Signal x else
    if n == 6 then Secure x else
    if n == 7 then Release x else
    if n == 8 then Clock else
    if n == 9 then TaskNo else
    if n == 10 then Gel x else End

-- the request of a TRAP with this number and this argument, which is R0; RROUT takes its low byte alone
abbrev pub request : ℕ → ℕ → Request
request n x = if n == 1 then Reads else if n == 2 then Puts (x % 256) else Calls (service n x)

-- the request of an instruction that stopped so, with the registers after it
abbrev pub asked_by : Stop → Regs → Request
asked_by Went g = Nothing
asked_by (Trap n) g = request n (reg g R0)
asked_by (Fault k a) g = Nothing

-- the registers with an answer; flags and other registers stay
abbrev pub answered : Regs → Answer → Regs
answered g Silence = g
answered g (Value x) = with_reg g R0 x
answered g (Number n) = with_reg g R1 n

-- the error number of an outcome, or 0, also where the task waits
abbrev pub error_of : Outcome → ℕ
error_of (Refused n) = n
error_of _ = 0

-- the answer to CLOCK and TASKNO
abbrev pub number_of : Outcome → ℕ
number_of (Go x) = x
number_of _ = 0

abbrev pub answer_to : Svc → Outcome → Answer
answer_to (Delay n) o = Silence
answer_to (Wait n) o = Number (error_of o)
answer_to (Signal n) o = Number (error_of o)
answer_to (Secure n) o = Number (error_of o)
answer_to (Release n) o = Number (error_of o)
answer_to Clock o = Value (number_of o)
answer_to TaskNo o = Value (number_of o)
answer_to (Gel n) o = Silence
answer_to End o = Silence

-- what a service leaves: the rules, the bytes of the console taken so far, those put by it, and the answer
pub record Served : Type 0 where
  pub rules : Roster
  pub taken : ℕ
  pub bytes : List ℕ
  pub answer : Answer

-- the next byte of the console, and 4 at its end, which is no byte
abbrev pub read : Roster → ℕ → Option ℕ → Served
read r taken None = record { rules = r; taken = taken; bytes = []; answer = Value 4 }
read r taken (Some b) = record { rules = r; taken = taken + 1; bytes = []; answer = Value b }

abbrev pub called : Svc → ℕ → Roster × Outcome → Served
called svc taken served = record { rules = served.0; taken = taken; bytes = []; answer = answer_to svc served.1 }

-- the service of a request of task i, where so many bytes of the console are taken and this is the next
abbrev pub serve : Roster → ℕ → Option ℕ → ℕ → Request → Served
serve r taken next i Nothing = record { rules = r; taken = taken; bytes = []; answer = Silence }
serve r taken next i Reads = read r taken next
serve r taken next i (Puts b) = record { rules = r; taken = taken; bytes = b ∷ []; answer = Silence }
serve r taken next i (Calls svc) = called svc taken (rules.serve r i svc)
