-- The support code, which stands from address 0 on in every image. An argument, or the dividend, stands above the return address.
use Rattle.std.specs.Prelude.{◌≡◌, ℕ, true, false, ◌+◌, ◌*◌, ◌==◌, if◌then◌else◌, List, [], ◌∷◌, ◌++◌, length, map}
use Rattle.pdp_code.specs.declared.instruction.Operand.{Operand}
use Rattle.pdp_code.specs.declared.instruction.Operand.TheVariants.{Register, Deferred, IncrementDeferred, Index, IndexDeferred, Immediate}
use Rattle.pdp_code.specs.declared.instruction.Pointer.TheVariants.{PSp}
use Rattle.pdp_code.specs.declared.instruction.Reg.TheVariants.{R0, R1, R2, R3, R4, R5, Sp, Pc}
use Rattle.pdp_code.specs.declared.instruction.Size.TheVariants.{Word}
use Rattle.pdp_code.specs.declared.instruction.Condition.{Condition}
use Rattle.pdp_code.specs.declared.instruction.Condition.TheVariants.{Always, Equal, Less, Greater, Plus, Minus, Overflow, NoOverflow, Carry}
use Rattle.pdp_code.specs.declared.instruction.DoubleOp.TheVariants.{Cmp}
use Rattle.pdp_code.specs.declared.instruction.SumOp.TheVariants.{Sub}
use Rattle.pdp_code.specs.declared.instruction.SingleOp.TheVariants.{Clr, Dec, Neg, Sbc, Tst}
use Rattle.pdp_code.specs.declared.instruction.WordOp.TheVariants.{Sxt}
use Rattle.pdp_code.specs.declared.instruction.RegisterOp.TheVariants.{Div}
use Rattle.pdp_code.specs.declared.instruction.Instr.{Instr}
use Rattle.pdp_code.specs.declared.instruction.Instr.TheVariants.{Double, Sum, OnWord, OnRegister, Branch, Jump, Call, Return, Trap, Flags}
use Rattle.rt_templates.specs.declared.line.Line.{Line}
use Rattle.rt_templates.specs.declared.routine.Routine.{Routine}
use Rattle.rt_templates.specs.declared.routine.Routine.TheVariants as routine
use Rattle.rt_templates.specs.declared.code.Support.{Support}
use Rattle.rt_templates.specs.Lines as lines
use Rattle.rt_templates.specs.Lines.{words, quiet, shown, taken, mov, push, pop, on}
use Rattle.rt_templates.specs.Layouts.{routine_number}

abbrev pub argument : Operand
argument = Index Sp 2

abbrev pub return : Instr
return = Return Pc

abbrev pub branch : Condition → ℕ → Line
branch c n = quiet (Branch c n)

abbrev pub set_carry : Instr
set_carry = Flags true false false false true

abbrev pub clear_carry : Instr
clear_carry = Flags false false false false true

-- ---- the supplied procedures

-- a service that answers
abbrev pub answering : ℕ → List Line
answering n = shown (Trap n) ∷ shown return ∷ []

-- a service that takes an argument
abbrev pub taking : ℕ → List Line
taking n = quiet (mov argument (Register R0)) ∷ answering n

-- a service that may be refused: on to what comes of it, so many words further
abbrev pub asking : ℕ → ℕ → List Line
asking n far = quiet (mov argument (Register R0)) ∷ shown (Trap n) ∷ branch Always far ∷ []

-- where the service was refused, the number of the error is the argument of the procedure in ERP
abbrev pub asked : List Line
asked =
    quiet (on Tst (Register R1)) ∷ branch Equal 5 ∷ quiet (push (Register R1)) ∷ shown (push (Index R4 0o12)) ∷ shown (Call Pc (IncrementDeferred PSp))
    ∷ quiet (on Tst taken) ∷ shown return ∷ []

abbrev pub release : List Line
release = quiet (mov argument (Register R0)) ∷ shown (Trap 7) ∷ asked

-- ---- errors

-- an error of a number, on to what comes of it
abbrev pub failing : ℕ → ℕ → List Line
failing n far = quiet (mov (Immediate n) (Register R0)) ∷ branch Always far ∷ []

-- to the frame of ERL's record, where there is one
abbrev pub to_record : List Line
to_record = quiet (mov (Deferred R4) (Register R1)) ∷ branch Equal 10 ∷ quiet (mov (Register R1) (Register Sp)) ∷ quiet (mov (Index R1 4) (Register R5)) ∷ []

-- the live activations, ERN and the record's label; and behind it the end of the task
abbrev pub to_label : List Line
to_label = quiet (mov (Index R1 6) (Index R4 2)) ∷ shown (mov (Register R0) (Index R4 0o10)) ∷ quiet (Jump (IndexDeferred R1 2)) ∷ shown (Trap 10) ∷ []

abbrev pub failed : List Line
failed = to_record ++ to_label

abbrev pub rrgel : List Line
rrgel = quiet (mov argument (Register R0)) ∷ failed

-- ---- ends of procedures

abbrev pub bounded_exit : List Line
bounded_exit = quiet (on Dec (Index R4 2)) ∷ []

abbrev pub exit : List Line
exit = quiet (mov (Register R5) (Register Sp)) ∷ quiet (pop (Register R5)) ∷ shown return ∷ []

-- ---- divisions, by R1: the result in the dividend's place and C clear, or the number of the error there and C set

abbrev pub dividing : List Line
dividing = quiet (mov (Register R1) (Register R2)) ∷ quiet (mov argument (Register R1)) ∷ quiet (OnWord Sxt (Register R0)) ∷ quiet (OnRegister Div R0 (Register R2)) ∷ []

abbrev pub quotient : List Line
quotient = dividing ++ (branch Overflow 16 ∷ quiet (mov (Register R0) argument) ∷ quiet return ∷ [])

-- -32768 MOD -1 is 0
abbrev pub bad_remainder : List Line
bad_remainder = branch Carry 3 ∷ quiet (on Clr argument) ∷ quiet return ∷ []

-- where the divisor is 0 the error is 2, else 3
abbrev pub bad : List Line
bad = quiet (mov (Immediate 3) (Register R0)) ∷ quiet (on Sbc (Register R0)) ∷ quiet (mov (Register R0) argument) ∷ quiet set_carry ∷ quiet return ∷ []

abbrev pub remainder : List Line
remainder = dividing ++ (branch Overflow 3 ∷ quiet (mov (Register R1) argument) ∷ quiet return ∷ (bad_remainder ++ bad))

-- ---- turns of a FOR, from R2 to R1 by R3: C where there is one, and R0 the turns behind the first

abbrev pub compare : Line
compare = quiet (Double Cmp Word (Register R1) (Register R2))

abbrev pub subtract : Line
subtract = quiet (Sum Sub (Register R2) (Register R1))

abbrev pub turns : List Line
turns =
    quiet (on Clr (Register R0)) ∷ quiet (on Tst (Register R3)) ∷ branch Equal 18 ∷ branch Minus 4
    ∷ compare ∷ branch Less 15 ∷ subtract ∷ branch Always 5
    ∷ compare ∷ branch Greater 11 ∷ subtract ∷ branch Equal 1 ∷ quiet (on Dec (Register R0))
    ∷ quiet (OnRegister Div R0 (Register R3)) ∷ branch NoOverflow 4
    ∷ quiet (mov (Register R1) (Register R0)) ∷ quiet (on Tst (Register R3)) ∷ branch Plus 1 ∷ quiet (on Neg (Register R0))
    ∷ quiet set_carry ∷ quiet return ∷ quiet clear_carry ∷ quiet return ∷ []

-- ---- the whole

-- the routines, in the order in which they stand; some run on into what stands behind them
abbrev pub routines : List (Routine × List Line)
routines =
    (routine.Rrin, answering 1) ∷ (routine.Rrout, taking 2) ∷ (routine.Delay, taking 3) ∷ (routine.Wait, asking 4 11)
    ∷ (routine.Signal, asking 5 7) ∷ (routine.Secure, asking 6 3) ∷ (routine.Release, release) ∷ (routine.Clock, answering 8)
    ∷ (routine.TaskNo, answering 9) ∷ (routine.BoundError, failing 6 5) ∷ (routine.SubscriptError, failing 1 2) ∷ (routine.Rrgel, rrgel)
    ∷ (routine.BoundedExit, bounded_exit) ∷ (routine.Exit, exit) ∷ (routine.Quotient, quotient) ∷ (routine.Remainder, remainder)
    ∷ (routine.Turns, turns) ∷ []

abbrev pub all : List (Routine × List Line) → List Line
all [] = []
all (r ∷ rs) = r.1 ++ all rs

abbrev pub all_lines : List Line
all_lines = all routines

-- the supplied procedures, the errors, the ends of procedures
abbrev pub console : List Line
console = answering 1 ++ (taking 2 ++ taking 3)

abbrev pub facilities : List Line
facilities = asking 6 3 ++ release

abbrev pub refusable : List Line
refusable = asking 4 11 ++ (asking 5 7 ++ facilities)

abbrev pub numbered : List Line
numbered = answering 8 ++ answering 9

abbrev pub supplied : List Line
supplied = console ++ (refusable ++ numbered)

abbrev pub errors : List Line
errors = failing 6 5 ++ (failing 1 2 ++ rrgel)

abbrev pub exits : List Line
exits = bounded_exit ++ exit

-- the address of the routine with a number, where the first of these stands at an address
abbrev pub begins : ℕ → List (Routine × List Line) → ℕ → ℕ
begins at [] n = 0
begins at (r ∷ rs) n = if routine_number r.0 == n then at else begins (at + 2 * length (words r.1)) rs n

abbrev pub numbers : List ℕ
numbers = 1 ∷ 2 ∷ 3 ∷ 4 ∷ 5 ∷ 6 ∷ 7 ∷ 8 ∷ 9 ∷ 10 ∷ 11 ∷ 12 ∷ 13 ∷ 14 ∷ 15 ∷ 16 ∷ 17 ∷ []

pub record IsSupport (s : Support) : Type 0 where
  pub words : s.words ≡ lines.words all_lines
  pub marks : s.marks ≡ lines.marks all_lines
  pub entries : s.entries ≡ map (begins 0 routines) numbers
