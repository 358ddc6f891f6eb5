-- Instructions of the machine with their marks, and the words of which the address isn't known yet; and what they are as words.
use Rattle.std.specs.Prelude.{ℕ, ◌+◌, List, [], ◌∷◌, ◌++◌, length, map, Option, Some, None}
use Rattle.pdp_code.specs.declared.instruction.Operand.{Operand}
use Rattle.pdp_code.specs.declared.instruction.Operand.TheVariants.{Deferred, Increment, Decrement}
use Rattle.pdp_code.specs.declared.instruction.Pointer.TheVariants.{PSp}
use Rattle.pdp_code.specs.declared.instruction.Reg.TheVariants.{Sp}
use Rattle.pdp_code.specs.declared.instruction.Size.TheVariants.{Word, Byte}
use Rattle.pdp_code.specs.declared.instruction.DoubleOp.TheVariants.{Mov}
use Rattle.pdp_code.specs.declared.instruction.SingleOp.{SingleOp}
use Rattle.pdp_code.specs.declared.instruction.Instr.{Instr}
use Rattle.pdp_code.specs.declared.instruction.Instr.TheVariants.{Double, Single}
use Rattle.pdp_code.specs.Code.{more_words, words_of, IsCodable}
use Rattle.rt_object.specs.declared.object.Relocation.{Relocation}
use Rattle.rt_templates.specs.declared.line.Hole.{Hole}
use Rattle.rt_templates.specs.declared.line.Line.{Line}
use Rattle.rt_templates.specs.declared.code.ProcCode.{ProcCode}

-- ---- what lines are as words. The first word behind that of the instruction waits for an address where there is a hole; it is 0.

abbrev pub hole_at : ℕ → Option Hole → List Relocation
hole_at at None = []
hole_at at (Some h) = record { place = at + 1; of = h.of; offset = h.offset } ∷ []

abbrev pub words : List Line → List ℕ
words [] = []
words (l ∷ ls) = words_of l.instr ++ words ls

-- the mark stands at the first word of an instruction
abbrev pub marks : List Line → List ℕ
marks [] = []
marks (l ∷ ls) = (l.mark ∷ map (λ _. 0) (more_words l.instr)) ++ marks ls

abbrev pub relocations : ℕ → List Line → List Relocation
relocations at [] = []
relocations at (l ∷ ls) = hole_at at l.hole ++ relocations (at + length (words_of l.instr)) ls

-- so much code, and lines behind it
abbrev pub after : ProcCode → List Line → ProcCode
after c ls = record { words = c.words ++ words ls; marks = c.marks ++ marks ls; relocations = c.relocations ++ relocations (length c.words) ls }

abbrev pub none : ProcCode
none = record { words = []; marks = []; relocations = [] }

-- distances of loops fit their six bits
abbrev pub AreCodable : List Line → Type 0
AreCodable [] = Unit {0}
AreCodable (l ∷ ls) = IsCodable l.instr × AreCodable ls

-- ---- lines

-- no visible step
abbrev pub quiet : Instr → Line
quiet i = record { instr = i; mark = 0; hole = None }

-- one visible step
abbrev pub shown : Instr → Line
shown i = record { instr = i; mark = 1; hole = None }

abbrev pub quiet_at : Instr → Hole → Line
quiet_at i h = record { instr = i; mark = 0; hole = Some h }

abbrev pub shown_at : Instr → Hole → Line
shown_at i h = record { instr = i; mark = 1; hole = Some h }

-- ---- operands and instructions that come often

-- the last value
abbrev pub top : Operand
top = Deferred Sp

-- the last value, which is taken off
abbrev pub taken : Operand
taken = Increment PSp

-- a place behind the last value
abbrev pub put : Operand
put = Decrement Sp

abbrev pub mov : Operand → Operand → Instr
mov s d = Double Mov Word s d

abbrev pub movb : Operand → Operand → Instr
movb s d = Double Mov Byte s d

abbrev pub push : Operand → Instr
push s = mov s put

abbrev pub pop : Operand → Instr
pop d = mov taken d

-- an instruction with one operand, a word
abbrev pub on : SingleOp → Operand → Instr
on op d = Single op Word d
