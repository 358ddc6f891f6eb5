-- The instructions of the machine for values and places. R0 to R3 are free; a value is a word of the stack.
use Rattle.std.specs.Prelude.{ℕ, ◌==◌, if◌then◌else◌, List, [], ◌∷◌, ◌++◌}
use Rattle.pdp_code.specs.declared.instruction.Operand.TheVariants.{Register, Deferred, IncrementDeferred, Index, IndexDeferred, Immediate, Absolute}
use Rattle.pdp_code.specs.declared.instruction.Pointer.TheVariants.{PSp}
use Rattle.pdp_code.specs.declared.instruction.Reg.TheVariants.{R0, R1, R4, Sp}
use Rattle.pdp_code.specs.declared.instruction.Size.TheVariants.{Word}
use Rattle.pdp_code.specs.declared.instruction.Instr.TheVariants.{Double, Sum, OnRegister, Branch, Jump}
use Rattle.pdp_code.specs.declared.instruction.Operand.{Operand}
use Rattle.pdp_code.specs.declared.instruction.Condition.TheVariants.{Carry}
use Rattle.pdp_code.specs.declared.instruction.DoubleOp.TheVariants.{Cmp}
use Rattle.pdp_code.specs.declared.instruction.SumOp.TheVariants.{Add}
use Rattle.pdp_code.specs.declared.instruction.SingleOp.TheVariants.{Clr, Dec, Asl}
use Rattle.pdp_code.specs.declared.instruction.RegisterOp.TheVariants.{Mul}
use Rattle.rt_icode.specs.declared.ins.Fixed.{Fixed}
use Rattle.rt_icode.specs.declared.ins.OwnItem.{OwnItem}
use Rattle.rt_icode.specs.declared.ins.OwnItem.TheVariants as item
use Rattle.rt_icode.specs.declared.ins.Width.{Width}
use Rattle.rt_icode.specs.declared.ins.Width.TheVariants as width
use Rattle.rt_templates.specs.declared.line.Hole.{Hole}
use Rattle.rt_templates.specs.declared.line.Line.{Line}
use Rattle.rt_templates.specs.Lines.{quiet, shown, quiet_at, shown_at, top, taken, put, mov, movb, push, pop, on}
use Rattle.rt_templates.specs.Layouts.{elements, support}
use Rattle.rt_templates.specs.declared.routine.Routine.TheVariants as routine

-- an address that isn't known yet
abbrev pub push_address : Hole → List Line
push_address h = quiet_at (push (Immediate 0)) h ∷ []

-- ---- fixed places; a BYTE has zeros in front

abbrev pub load : Width → Hole → List Line
load width.Byte h = quiet (on Clr put) ∷ shown_at (movb (Absolute 0) top) h ∷ []
load width.Word h = shown_at (push (Absolute 0)) h ∷ []

abbrev pub save : Width → Hole → List Line
save width.Byte h = shown_at (movb taken (Absolute 0)) h ∷ []
save width.Word h = shown_at (pop (Absolute 0)) h ∷ []

-- ---- the task's own items, in its block

abbrev pub own : OwnItem → Operand
own item.Ern = Index R4 0o10
own item.Erp = Index R4 0o12
own item.In = Index R4 0o14
own item.Out = Index R4 0o16

-- ---- places on the stack

abbrev pub fetch : Width → List Line
fetch width.Byte = quiet (mov top (Register R0)) ∷ quiet (on Clr top) ∷ shown (movb (Deferred R0) top) ∷ []
fetch width.Word = shown (push (IncrementDeferred PSp)) ∷ []

abbrev pub store : Width → List Line
store width.Byte = shown (movb taken (IncrementDeferred PSp)) ∷ []
store width.Word = shown (mov taken (IncrementDeferred PSp)) ∷ []

-- so many bytes further
abbrev pub further : ℕ → List Line
further n = quiet (Sum Add (Immediate n) top) ∷ []

-- ---- elements. A subscript from 1 on becomes a number of bytes in R1; error 1 where it passes the length.

abbrev pub scale : ℕ → List Line
scale size =
    if size == 1 then [] else
    if size == 2 then quiet (on Asl (Register R1)) ∷ [] else
    quiet (OnRegister Mul R1 (Immediate size)) ∷ []

abbrev pub subscript : Operand → ℕ → List Line
subscript length size =
    quiet (pop (Register R1)) ∷ quiet (on Dec (Register R1)) ∷ quiet (Double Cmp Word (Register R1) length) ∷ quiet (Branch Carry 2)
    ∷ quiet_at (Jump (Absolute 0)) (support routine.SubscriptError) ∷ scale size

abbrev pub element_of : Fixed → List Line
element_of row = quiet_at (Sum Add (Immediate 0) (Register R1)) (elements row) ∷ quiet (push (Register R1)) ∷ []

abbrev pub element_at : Fixed → ℕ → ℕ → List Line
element_at row length size = subscript (Immediate length) size ++ element_of row

-- the array's address lies under the subscript; 2 bytes further the elements begin
abbrev pub element_behind : List Line
element_behind = quiet (Sum Add (Immediate 2) (Register R1)) ∷ quiet (Sum Add (Register R1) top) ∷ []

abbrev pub element : ℕ → ℕ → List Line
element length size = subscript (Immediate length) size ++ element_behind

-- of a row the length is its first word
abbrev pub element_row : ℕ → List Line
element_row size = subscript (IndexDeferred Sp 0) size ++ element_behind
