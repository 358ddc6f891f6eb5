-- Where the parameters and locals of a procedure lie, and its instructions.
use Rattle.std.specs.Prelude.{ℕ, ◌+◌, ◌-◌, ◌*◌, nat_lt, if◌then◌else◌, List, [], ◌∷◌, Option, Some, slice_get, slice_index}
use Rattle.rt_words.specs.Word.{wrap_add, wrap_sub}
use Rattle.rt_words.specs.Operators.{wrap_mul}
use Rattle.pdp_code.specs.declared.instruction.Operand.{Operand}
use Rattle.pdp_code.specs.declared.instruction.Operand.TheVariants.{Index}
use Rattle.pdp_code.specs.declared.instruction.Reg.TheVariants.{R5}
use Rattle.rt_object.specs.declared.object.Relocated.TheVariants as relocated
use Rattle.rt_icode.specs.declared.ins.Fixed.{Fixed}
use Rattle.rt_icode.specs.declared.ins.Ins.{Ins}
use Rattle.rt_icode.specs.declared.ins.Ins.TheVariants as ins
use Rattle.rt_icode.specs.Weights.{words_of}
use Rattle.rt_templates.specs.declared.line.Hole.{Hole}
use Rattle.rt_templates.specs.declared.layout.Layout.{Layout}
use Rattle.rt_templates.specs.declared.routine.Routine.{Routine}
use Rattle.rt_templates.specs.declared.routine.Routine.TheVariants as routine

-- so many words below the frame
abbrev pub below : ℕ → ℕ
below n = wrap_sub 0 (wrap_mul 2 n)

-- a parameter or local by its distance from R5: the parameters lie above the return address, the last one lowest, and the locals
-- below the frame
abbrev pub distance : Layout → ℕ → ℕ
distance f i = if nat_lt i f.parameters then wrap_add 4 (wrap_mul 2 (f.parameters - 1 - i)) else below (wrap_add (i - f.parameters) 1)

abbrev pub local : Layout → ℕ → Operand
local f i = Index R5 (distance f i)

-- what ERL was at the entry: the last word of the record, the fourth below the locals
abbrev pub former : Layout → Operand
former f = Index R5 (below (wrap_add f.locals 4))

-- ---- what words wait for

-- an instruction of the procedure
abbrev pub way : Layout → ℕ → Hole
way f k = record { of = relocated.Brick f.brick; offset = slice_index f.starts k }

abbrev pub brick : ℕ → Hole
brick b = record { of = relocated.Brick b; offset = 0 }

abbrev pub place : Fixed → Hole
place p = record { of = relocated.Brick p.brick; offset = p.offset }

-- the first element of a fixed array, behind its length
abbrev pub elements : Fixed → Hole
elements p = record { of = relocated.Brick p.brick; offset = wrap_add p.offset 2 }

abbrev pub text : ℕ → Hole
text n = record { of = relocated.String n; offset = 0 }

-- the number of a routine of the support code; the supplied procedures have those of their TRAPs
abbrev pub routine_number : Routine → ℕ
routine_number routine.Rrin = 1
routine_number routine.Rrout = 2
routine_number routine.Delay = 3
routine_number routine.Wait = 4
routine_number routine.Signal = 5
routine_number routine.Secure = 6
routine_number routine.Release = 7
routine_number routine.Clock = 8
routine_number routine.TaskNo = 9
routine_number routine.Rrgel = 10
routine_number routine.SubscriptError = 11
routine_number routine.Exit = 12
routine_number routine.Quotient = 13
routine_number routine.Remainder = 14
routine_number routine.Turns = 15
routine_number routine.BoundError = 16
routine_number routine.BoundedExit = 17

abbrev pub support : Routine → Hole
support r = record { of = relocated.Support (routine_number r); offset = 0 }

-- ---- the layout of a procedure

-- the first byte of each instruction's words
abbrev pub starts : ℕ → List Ins → List ℕ
starts at [] = []
starts at (i ∷ is) = at ∷ starts (at + 2 * words_of i) is

-- the brick, the parameters and the locals of the frame that an instruction makes
abbrev pub frame : Option Ins → ℕ × ℕ × ℕ
frame (Some (ins.Enter b p l r)) = (b, p, l)
frame _ = (0, 0, 0)

abbrev pub framed : ℕ × ℕ × ℕ → List ℕ → Layout
framed f at = record { brick = f.0; parameters = f.1; locals = f.2; starts = at }

abbrev pub layout_of : List Ins → Layout
layout_of code = framed (frame (slice_get code 0)) (starts 0 code)
