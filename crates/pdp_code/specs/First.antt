-- The instruction that a first word begins, with 0 for each word that follows.
use Rattle.std.specs.Prelude.{ℕ, ◌/◌, ◌%◌, Option, Some, None, ◌==◌, if◌then◌else◌}
use Rattle.pdp_code.specs.declared.instruction.Reg.{Reg}
use Rattle.pdp_code.specs.declared.instruction.Reg.TheVariants.{R0, R1, R2, R3, R4, R5, Sp, Pc}
use Rattle.pdp_code.specs.declared.instruction.Pointer.{Pointer}
use Rattle.pdp_code.specs.declared.instruction.Pointer.TheVariants.{P0, P1, P2, P3, P4, P5, PSp}
use Rattle.pdp_code.specs.declared.instruction.Operand.{Operand}
use Rattle.pdp_code.specs.declared.instruction.Operand.TheVariants.{Register, Deferred, Increment, IncrementDeferred, Decrement, DecrementDeferred, Index, IndexDeferred, Immediate, Absolute}
use Rattle.pdp_code.specs.declared.instruction.Size.{Size}
use Rattle.pdp_code.specs.declared.instruction.Size.TheVariants.{Word, Byte}
use Rattle.pdp_code.specs.declared.instruction.DoubleOp.{DoubleOp}
use Rattle.pdp_code.specs.declared.instruction.DoubleOp.TheVariants.{Mov, Cmp, Bit, Bic, Bis}
use Rattle.pdp_code.specs.declared.instruction.SumOp.{SumOp}
use Rattle.pdp_code.specs.declared.instruction.SumOp.TheVariants.{Add, Sub}
use Rattle.pdp_code.specs.declared.instruction.SingleOp.{SingleOp}
use Rattle.pdp_code.specs.declared.instruction.SingleOp.TheVariants.{Clr, Com, Inc, Dec, Neg, Adc, Sbc, Tst, Ror, Rol, Asr, Asl}
use Rattle.pdp_code.specs.declared.instruction.WordOp.{WordOp}
use Rattle.pdp_code.specs.declared.instruction.WordOp.TheVariants.{Swab, Sxt}
use Rattle.pdp_code.specs.declared.instruction.RegisterOp.{RegisterOp}
use Rattle.pdp_code.specs.declared.instruction.RegisterOp.TheVariants.{Mul, Div, Ash, Ashc, Xor}
use Rattle.pdp_code.specs.declared.instruction.Condition.{Condition}
use Rattle.pdp_code.specs.declared.instruction.Condition.TheVariants.{Always, NotEqual, Equal, AtLeast, Less, Greater, AtMost, Plus, Minus, Higher, LowerSame, NoOverflow, Overflow, NoCarry, Carry}
use Rattle.pdp_code.specs.declared.instruction.Instr.{Instr}
use Rattle.pdp_code.specs.declared.instruction.Instr.TheVariants.{Double, Sum, Single, OnWord, OnRegister, Branch, Loop, Jump, Call, Return, Trap, Flags}

abbrev pub reg_of : ℕ → Reg
reg_of n = if n == 0 then R0 else if n == 1 then R1 else if n == 2 then R2 else if n == 3 then R3 else if n == 4 then R4 else if n == 5 then R5 else if n == 6 then Sp else Pc

abbrev pub pointer_of : ℕ → Pointer
pointer_of n = if n == 0 then P0 else if n == 1 then P1 else if n == 2 then P2 else if n == 3 then P3 else if n == 4 then P4 else if n == 5 then P5 else PSp

-- the operand of a mode and a register's number
abbrev pub operand_at : ℕ → ℕ → Operand
operand_at m r =
    if m == 0 then Register (reg_of r) else
    if m == 1 then Deferred (reg_of r) else
    if m == 2 then (if r == 7 then Immediate 0 else Increment (pointer_of r)) else
    if m == 3 then (if r == 7 then Absolute 0 else IncrementDeferred (pointer_of r)) else
    if m == 4 then Decrement (reg_of r) else
    if m == 5 then DecrementDeferred (reg_of r) else
    if m == 6 then Index (reg_of r) 0 else IndexDeferred (reg_of r) 0

-- the operand of six bits
abbrev pub operand_of : ℕ → Operand
operand_of n = operand_at (n / 8) (n % 8)

abbrev pub double_of : ℕ → Option DoubleOp
double_of n =
    if n == 0o1 then Some Mov else
    if n == 0o2 then Some Cmp else
    if n == 0o3 then Some Bit else
    if n == 0o4 then Some Bic else
    if n == 0o5 then Some Bis else None

abbrev pub sum_of : ℕ → Option SumOp
sum_of n =
    if n == 0o6 then Some Add else
    if n == 0o16 then Some Sub else None

abbrev pub single_of : ℕ → Option SingleOp
single_of n =
    if n == 0o50 then Some Clr else
    if n == 0o51 then Some Com else
    if n == 0o52 then Some Inc else
    if n == 0o53 then Some Dec else
    if n == 0o54 then Some Neg else
    if n == 0o55 then Some Adc else
    if n == 0o56 then Some Sbc else
    if n == 0o57 then Some Tst else
    if n == 0o60 then Some Ror else
    if n == 0o61 then Some Rol else
    if n == 0o62 then Some Asr else
    if n == 0o63 then Some Asl else None

abbrev pub word_of : ℕ → Option WordOp
word_of n =
    if n == 0o3 then Some Swab else
    if n == 0o67 then Some Sxt else None

abbrev pub register_of : ℕ → Option RegisterOp
register_of n =
    if n == 0o70 then Some Mul else
    if n == 0o71 then Some Div else
    if n == 0o72 then Some Ash else
    if n == 0o73 then Some Ashc else
    if n == 0o74 then Some Xor else None

abbrev pub condition_of : ℕ → Option Condition
condition_of n =
    if n == 0o1 then Some Always else
    if n == 0o2 then Some NotEqual else
    if n == 0o3 then Some Equal else
    if n == 0o4 then Some AtLeast else
    if n == 0o5 then Some Less else
    if n == 0o6 then Some Greater else
    if n == 0o7 then Some AtMost else
    if n == 0o200 then Some Plus else
    if n == 0o201 then Some Minus else
    if n == 0o202 then Some Higher else
    if n == 0o203 then Some LowerSame else
    if n == 0o204 then Some NoOverflow else
    if n == 0o205 then Some Overflow else
    if n == 0o206 then Some NoCarry else
    if n == 0o207 then Some Carry else None

-- a size by its bit
abbrev pub size_at : ℕ → Size
size_at n = if n == 0 then Word else Byte

-- the first that is there
abbrev pub or_else : Option Instr → Option Instr → Option Instr
or_else (Some i) rest = Some i
or_else None rest = rest

abbrev pub double_first : Option DoubleOp → ℕ → Option Instr
double_first None w = None
double_first (Some o) w = Some (Double o (size_at (w / 32768)) (operand_of (w / 64 % 64)) (operand_of (w % 64)))

abbrev pub sum_first : Option SumOp → ℕ → Option Instr
sum_first None w = None
sum_first (Some o) w = Some (Sum o (operand_of (w / 64 % 64)) (operand_of (w % 64)))

abbrev pub single_first : Option SingleOp → ℕ → Option Instr
single_first None w = None
single_first (Some o) w = Some (Single o (size_at (w / 32768)) (operand_of (w % 64)))

abbrev pub word_first : Option WordOp → ℕ → Option Instr
word_first None w = None
word_first (Some o) w = Some (OnWord o (operand_of (w % 64)))

abbrev pub register_first : Option RegisterOp → ℕ → Option Instr
register_first None w = None
register_first (Some o) w = Some (OnRegister o (reg_of (w / 64 % 8)) (operand_of (w % 64)))

abbrev pub branch_first : Option Condition → ℕ → Option Instr
branch_first None w = None
branch_first (Some c) w = Some (Branch c (w % 256))

-- the instructions with no table of their own
abbrev pub other_first : ℕ → Option Instr
other_first w =
    if w / 512 == 0o77 then Some (Loop (reg_of (w / 64 % 8)) (w % 64)) else
    if w / 64 == 1 then Some (Jump (operand_of (w % 64))) else
    if w / 512 == 4 then Some (Call (reg_of (w / 64 % 8)) (operand_of (w % 64))) else
    if w / 8 == 0o20 then Some (Return (reg_of (w % 8))) else
    if w / 256 == 0o211 then Some (Trap (w % 256)) else
    if w / 32 == 5 then Some (Flags (w / 16 % 2 == 1) (w / 8 % 2 == 1) (w / 4 % 2 == 1) (w / 2 % 2 == 1) (w % 2 == 1)) else None

-- the instruction that a word begins
abbrev pub first_of : ℕ → Option Instr
first_of w =
    or_else (double_first (double_of (w / 4096 % 8)) w) (
    or_else (sum_first (sum_of (w / 4096)) w) (
    or_else (single_first (single_of (w / 64 % 512)) w) (
    or_else (word_first (word_of (w / 64)) w) (
    or_else (register_first (register_of (w / 512)) w) (
    or_else (branch_first (condition_of (w / 256)) w) (
    other_first w))))))

-- an operand and an instruction with 0 for each word that follows
abbrev pub blank_operand : Operand → Operand
blank_operand (Register r) = Register r
blank_operand (Deferred r) = Deferred r
blank_operand (Increment p) = Increment p
blank_operand (IncrementDeferred p) = IncrementDeferred p
blank_operand (Decrement r) = Decrement r
blank_operand (DecrementDeferred r) = DecrementDeferred r
blank_operand (Index r x) = Index r 0
blank_operand (IndexDeferred r x) = IndexDeferred r 0
blank_operand (Immediate x) = Immediate 0
blank_operand (Absolute x) = Absolute 0

abbrev pub blank : Instr → Instr
blank (Double o z s d) = Double o z (blank_operand s) (blank_operand d)
blank (Sum o s d) = Sum o (blank_operand s) (blank_operand d)
blank (Single o z d) = Single o z (blank_operand d)
blank (OnWord o d) = OnWord o (blank_operand d)
blank (OnRegister o r s) = OnRegister o r (blank_operand s)
blank (Branch c n) = Branch c n
blank (Loop r n) = Loop r n
blank (Jump d) = Jump (blank_operand d)
blank (Call r d) = Call r (blank_operand d)
blank (Return r) = Return r
blank (Trap n) = Trap n
blank (Flags u n z v c) = Flags u n z v c
