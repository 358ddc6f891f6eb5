-- The instructions of the machine for operators. The last value is the right operand.
use Rattle.std.specs.Prelude.{ℕ, List, [], ◌∷◌, ◌++◌}
use Rattle.pdp_code.specs.declared.instruction.Operand.TheVariants.{Register, Immediate, Absolute}
use Rattle.pdp_code.specs.declared.instruction.Reg.TheVariants.{R0, R1, R2, Pc}
use Rattle.pdp_code.specs.declared.instruction.Size.TheVariants.{Word}
use Rattle.pdp_code.specs.declared.instruction.Instr.{Instr}
use Rattle.pdp_code.specs.declared.instruction.Instr.TheVariants.{Double, Sum, OnRegister, Branch, Call}
use Rattle.pdp_code.specs.declared.instruction.Condition.TheVariants.{Plus, NoCarry}
use Rattle.pdp_code.specs.declared.instruction.Operand.{Operand}
use Rattle.pdp_code.specs.declared.instruction.Reg.{Reg}
use Rattle.pdp_code.specs.declared.instruction.SumOp.{SumOp}
use Rattle.pdp_code.specs.declared.instruction.DoubleOp.{DoubleOp}
use Rattle.pdp_code.specs.declared.instruction.DoubleOp.TheVariants.{Bic, Bis}
use Rattle.pdp_code.specs.declared.instruction.SumOp.TheVariants.{Add, Sub}
use Rattle.pdp_code.specs.declared.instruction.SingleOp.TheVariants.{Clr, Com, Neg, Tst, Rol, Asl}
use Rattle.pdp_code.specs.declared.instruction.RegisterOp.TheVariants.{Mul, Ash, Ashc, Xor}
use Rattle.rt_icode.specs.declared.ins.Alter.{Alter}
use Rattle.rt_icode.specs.declared.ins.Alter.TheVariants as alter
use Rattle.rt_icode.specs.declared.ins.Division.{Division}
use Rattle.rt_icode.specs.declared.ins.Division.TheVariants as division
use Rattle.rt_icode.specs.declared.ins.Merge.{Merge}
use Rattle.rt_icode.specs.declared.ins.Merge.TheVariants as merge
use Rattle.rt_templates.specs.declared.routine.Routine.{Routine}
use Rattle.rt_templates.specs.declared.routine.Routine.TheVariants as routine
use Rattle.rt_templates.specs.declared.line.Line.{Line}
use Rattle.rt_templates.specs.Lines.{quiet, quiet_at, top, taken, mov, push, pop, on}
use Rattle.rt_templates.specs.Layouts.{support}

-- some bits become 0
abbrev pub clear_bits : ℕ → Operand → Instr
clear_bits n d = Double Bic Word (Immediate n) d

-- the two last values make one, by one instruction
abbrev pub bits : DoubleOp → Instr
bits op = Double op Word taken top

abbrev pub sum : SumOp → List Line
sum op = quiet (Sum op taken top) ∷ []

abbrev pub altered : Alter → List Line
altered alter.Negate = quiet (on Neg top) ∷ []
altered alter.Complement = quiet (on Com top) ∷ []
altered alter.LowByte = quiet (clear_bits 0o177400 top) ∷ []
altered alter.Absolute = quiet (on Tst top) ∷ quiet (Branch Plus 1) ∷ quiet (on Neg top) ∷ []

abbrev pub product : List Line
product = quiet (pop (Register R1)) ∷ quiet (OnRegister Mul R1 taken) ∷ quiet (push (Register R1)) ∷ []

-- the high word of the product, a place to the left
abbrev pub frac_product : List Line
frac_product = quiet (pop (Register R0)) ∷ quiet (OnRegister Mul R0 taken) ∷ quiet (on Asl (Register R1)) ∷ quiet (on Rol (Register R0)) ∷ quiet (push (Register R0)) ∷ []

-- a count of places modulo 16
abbrev pub places : Reg → List Line
places r = quiet (pop (Register r)) ∷ quiet (clear_bits 0o177760 (Register r)) ∷ []

abbrev pub by_ash : List Line
by_ash = quiet (mov top (Register R1)) ∷ quiet (OnRegister Ash R1 (Register R0)) ∷ quiet (mov (Register R1) top) ∷ []

abbrev pub shift_left : List Line
shift_left = places R0 ++ by_ash

abbrev pub shift_sign : List Line
shift_sign = places R0 ++ (quiet (on Neg (Register R0)) ∷ by_ash)

-- zeros come from R0
abbrev pub shift_right : List Line
shift_right = places R2 ++ (quiet (on Neg (Register R2)) ∷ quiet (on Clr (Register R0)) ∷ quiet (mov top (Register R1)) ∷ quiet (OnRegister Ashc R0 (Register R2)) ∷ quiet (mov (Register R1) top) ∷ [])

abbrev pub merged : Merge → List Line
merged merge.Plus = sum Add
merged merge.Minus = sum Sub
merged merge.Lor = quiet (bits Bis) ∷ []
merged merge.Land = quiet (on Com top) ∷ quiet (bits Bic) ∷ []
merged merge.Nev = quiet (pop (Register R0)) ∷ quiet (OnRegister Xor R0 top) ∷ []
merged merge.Times = product
merged merge.FracTimes = frac_product
merged merge.Sll = shift_left
merged merge.Sla = shift_left
merged merge.Sra = shift_sign
merged merge.Srl = shift_right

abbrev pub routine_of : Division → Routine
routine_of division.Quotient = routine.Quotient
routine_of division.Remainder = routine.Remainder

-- the routine puts the result in the dividend's place, or the number of the error
abbrev pub divide : Division → List Line
divide d = quiet (pop (Register R1)) ∷ quiet_at (Call Pc (Absolute 0)) (support (routine_of d)) ∷ []

-- past the words of LoadOwn and Report, two each, where there was no error
abbrev pub divide_or : Division → List Line
divide_or d = divide d ++ (quiet (Branch NoCarry 4) ∷ [])
