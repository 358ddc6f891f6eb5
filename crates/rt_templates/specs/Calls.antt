-- The instructions of the machine for frames, calls and returns.
use Rattle.std.specs.Prelude.{ℕ, ◌==◌, Bool, true, false, if◌then◌else◌, List, [], ◌∷◌, ◌++◌, replicate}
use Rattle.rt_words.specs.Word.{wrap_add}
use Rattle.rt_words.specs.Operators.{wrap_mul}
use Rattle.pdp_code.specs.declared.instruction.Operand.TheVariants.{Register, Deferred, IncrementDeferred, Index, Immediate, Absolute}
use Rattle.pdp_code.specs.declared.instruction.Pointer.TheVariants.{PSp}
use Rattle.pdp_code.specs.declared.instruction.Reg.TheVariants.{R0, R4, R5, Sp, Pc}
use Rattle.pdp_code.specs.declared.instruction.Instr.TheVariants.{Sum, Jump, Call}
use Rattle.pdp_code.specs.declared.instruction.SumOp.TheVariants.{Add}
use Rattle.pdp_code.specs.declared.instruction.SingleOp.TheVariants.{Clr}
use Rattle.rt_templates.specs.declared.routine.Routine.TheVariants as routine
use Rattle.rt_templates.specs.declared.line.Hole.{Hole}
use Rattle.rt_templates.specs.declared.line.Line.{Line}
use Rattle.rt_templates.specs.Lines.{quiet, shown, quiet_at, shown_at, top, put, mov, push, pop, on}
use Rattle.rt_templates.specs.Layouts.{brick, support}

-- ---- frames. R5 is the frame, R4 the task's block.

-- a record for ERL: the live activations, the frame, the label, which comes later, and what ERL was
abbrev pub recovery : Bool → List Line
recovery true = quiet (push (Index R4 2)) ∷ quiet (push (Register R5)) ∷ quiet (on Clr put) ∷ quiet (push (Deferred R4)) ∷ []
recovery false = []

-- the caller's frame is kept
abbrev pub begin : List Line
begin = quiet (push (Register R5)) ∷ quiet (mov (Register Sp) (Register R5)) ∷ []

-- and each local becomes 0
abbrev pub enter : ℕ → Bool → List Line
enter locals recovers = begin ++ (replicate locals (quiet (on Clr put)) ++ recovery recovers)

abbrev pub leave : List Line
leave = quiet_at (Jump (Absolute 0)) (support routine.Exit) ∷ []

-- the answer is in R0
abbrev pub give_up : List Line
give_up = quiet (pop (Register R0)) ∷ leave

abbrev pub recover : Hole → List Line
recover h = quiet_at (mov (Immediate 0) (Index Sp 2)) h ∷ shown (mov (Register Sp) (Deferred R4)) ∷ []

-- ---- calls. The caller takes so many words off, and keeps the answer where it is wanted.

abbrev pub drop_words : ℕ → List Line
drop_words n = quiet (Sum Add (Immediate (wrap_mul 2 n)) (Register Sp)) ∷ []

abbrev pub kept : Bool → List Line
kept gives = if gives then quiet (push (Register R0)) ∷ [] else []

abbrev pub invoke : ℕ → ℕ → Bool → List Line
invoke b n gives = shown_at (Call Pc (Absolute 0)) (brick b) ∷ ((if n == 0 then [] else drop_words n) ++ kept gives)

-- the procedure's address stands under the arguments
abbrev pub invoke_by : ℕ → Bool → List Line
invoke_by n gives = quiet (mov (Index Sp (wrap_mul 2 n)) (Register R0)) ∷ shown (Call Pc (Deferred R0)) ∷ (drop_words (wrap_add n 1) ++ kept gives)

-- the procedure is taken off and called; the number under it is its argument, in whose place 0 comes
abbrev pub report : List Line
report = shown (Call Pc (IncrementDeferred PSp)) ∷ quiet (on Clr top) ∷ []
