-- The instructions of the machine for tests, jumps and loops.
use Rattle.std.specs.Prelude.{ℕ, Bool, if◌then◌else◌, List, [], ◌∷◌, ◌++◌}
use Rattle.rt_words.specs.Word.{wrap_add}
use Rattle.rt_tree_nodes.specs.declared.operators.Rel.{Rel}
use Rattle.rt_tree_nodes.specs.declared.operators.Rel.TheVariants as rel
use Rattle.pdp_code.specs.declared.instruction.Operand.TheVariants.{Register, Absolute}
use Rattle.pdp_code.specs.declared.instruction.Reg.TheVariants.{R0, R1, R2, R3, Pc}
use Rattle.pdp_code.specs.declared.instruction.Size.TheVariants.{Word}
use Rattle.pdp_code.specs.declared.instruction.Instr.TheVariants.{Double, Sum, Branch, Jump, Call}
use Rattle.pdp_code.specs.declared.instruction.Operand.{Operand}
use Rattle.pdp_code.specs.declared.instruction.Condition.{Condition}
use Rattle.pdp_code.specs.declared.instruction.Condition.TheVariants.{Equal, NotEqual, Less, AtMost, Greater, AtLeast, Carry}
use Rattle.pdp_code.specs.declared.instruction.DoubleOp.TheVariants.{Cmp}
use Rattle.pdp_code.specs.declared.instruction.SumOp.TheVariants.{Add}
use Rattle.pdp_code.specs.declared.instruction.SingleOp.TheVariants.{Dec, Tst}
use Rattle.rt_templates.specs.declared.routine.Routine.TheVariants as routine
use Rattle.rt_templates.specs.declared.line.Hole.{Hole}
use Rattle.rt_templates.specs.declared.line.Line.{Line}
use Rattle.rt_templates.specs.Lines.{quiet, quiet_at, shown_at, top, taken, mov, pop, on}
use Rattle.rt_templates.specs.declared.layout.Layout.{Layout}
use Rattle.rt_templates.specs.Layouts.{local, support}

-- a jump, whose address isn't known yet
abbrev pub jump : Hole → Line
jump h = quiet_at (Jump (Absolute 0)) h

abbrev pub shown_jump : Hole → Line
shown_jump h = shown_at (Jump (Absolute 0)) h

-- When the right value less the left one tells that a relation holds, and when that it doesn't.
abbrev pub holds : Rel → Condition
holds rel.Equal = Equal
holds rel.Unequal = NotEqual
holds rel.Less = Greater
holds rel.LessOrEqual = AtLeast
holds rel.Greater = Less
holds rel.GreaterOrEqual = AtMost
holds rel.Same = Equal
holds rel.Different = NotEqual

abbrev pub fails : Rel → Condition
fails rel.Equal = NotEqual
fails rel.Unequal = Equal
fails rel.Less = AtMost
fails rel.LessOrEqual = Less
fails rel.Greater = AtLeast
fails rel.GreaterOrEqual = Greater
fails rel.Same = NotEqual
fails rel.Different = Equal

-- the jump is left out where the relation's truth isn't `when`
abbrev pub test : Rel → Bool → Hole → List Line
test r when h = quiet (Double Cmp Word taken taken) ∷ quiet (Branch (if when then fails r else holds r) 2) ∷ jump h ∷ []

abbrev pub case : Hole → List Line
case h = quiet (on Dec top) ∷ quiet (Branch NotEqual 3) ∷ quiet (on Tst taken) ∷ shown_jump h ∷ []

-- ---- loops: the variable of a FOR, its step behind it, and behind that the turns that are left

module _ (f : Layout) where
  abbrev pub step : ℕ → Operand
  step i = local f (wrap_add i 1)

  abbrev pub turns : ℕ → Operand
  turns i = local f (wrap_add i 2)

  -- to the first turn, if there is one
  abbrev pub start_turns : ℕ → Hole → List Line
  start_turns i h = quiet (Branch Carry 2) ∷ jump h ∷ quiet (mov (Register R0) (turns i)) ∷ []

  -- the routine answers in R0 the turns behind the first, and in C whether there is one
  abbrev pub count_turns : ℕ → List Line
  count_turns i = quiet (pop (Register R1)) ∷ quiet (mov (local f i) (Register R2)) ∷ quiet (mov (step i) (Register R3)) ∷ quiet_at (Call Pc (Absolute 0)) (support routine.Turns) ∷ []

  abbrev pub count_for : ℕ → Hole → List Line
  count_for i h = count_turns i ++ start_turns i h

  abbrev pub count_to : ℕ → Hole → List Line
  count_to i h = quiet (pop (Register R0)) ∷ quiet (Branch Greater 2) ∷ jump h ∷ quiet (on Dec (Register R0)) ∷ quiet (mov (Register R0) (turns i)) ∷ []

  abbrev pub turn_for : ℕ → Hole → List Line
  turn_for i h =
      quiet (on Tst (turns i)) ∷ quiet (Branch Equal 7) ∷ quiet (on Dec (turns i)) ∷ quiet (Sum Add (step i) (local f i))
      ∷ shown_jump h ∷ []

  abbrev pub turn_to : ℕ → Hole → List Line
  turn_to i h = quiet (on Tst (turns i)) ∷ quiet (Branch Equal 4) ∷ quiet (on Dec (turns i)) ∷ shown_jump h ∷ []
