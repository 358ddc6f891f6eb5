-- A call from compiled code, with arguments and a result.
use Rattle.std.specs.Prelude.{◌≡◌, ℕ, true, ◌+◌, ◌*◌, ◌<◌, ◌≤◌, List, [], ◌∷◌, length, Option, Some}
use Rattle.rt_tree_nodes.specs.declared.operators.Op2.TheVariants.{Plus}
use Rattle.rt_tree_nodes.specs.declared.store.Proc.{Proc}
use Rattle.rt_tree_nodes.specs.declared.store.Datum.{Datum}
use Rattle.rt_tree_nodes.specs.Tree.{Num, Own, Two, Keep, GiveBack, Done, Then}
use Rattle.rt_work_state.specs.Items.{Item, Calls}
use Rattle.rt_resolve.specs.World.{Code}
use Rattle.rt_meaning.specs.Step.{Act, with_todo, next_of}
use Rattle.rt_meaning_laws.specs.Work.{IsProcedure}
use Rattle.rt_icode_meaning.specs.Typed.{ArgsFit, ResultFits}
use Rattle.pdp_code.specs.declared.instruction.Reg.TheVariants.{R0, R5, Sp, Pc}
use Rattle.pdp_code.specs.declared.instruction.Pointer.TheVariants.{PSp}
use Rattle.pdp_code.specs.declared.instruction.Operand.TheVariants.{Register, Increment, Decrement, Index, Immediate, Absolute}
use Rattle.pdp_code.specs.declared.instruction.Size.TheVariants.{Word}
use Rattle.pdp_code.specs.declared.instruction.DoubleOp.TheVariants.{Mov}
use Rattle.pdp_code.specs.declared.instruction.SumOp.TheVariants.{Add}
use Rattle.pdp_code.specs.declared.instruction.Instr.TheVariants.{Double, Sum, Call, Return}
use Rattle.pdp_symbolic.specs.Machine.{Machine, past_words}
use Rattle.rt_follows.specs.Whole.{Whole, Home, meaning, word_of, pushed}
use Rattle.rt_follows.specs.Held.{Marked, quiet, shown, CodeAt}
use Rattle.rt_follows.specs.Runs.{Tracks, live}

-- the call of what stands at an address, the n words of its arguments taken off, and the result kept
abbrev pub call_code : ℕ → ℕ → List Marked
call_code to n = shown (Call Pc (Absolute to)) ∷ quiet (Sum Add (Immediate (2 * n)) (Register Sp)) ∷ quiet (Double Mov Word (Register R0) (Decrement Sp)) ∷ []

-- where the code behind it stands
abbrev pub behind : ℕ → ℕ
behind at = past_words at (0 ∷ 0 ∷ 0 ∷ 0 ∷ 0 ∷ [])

-- The source's next step calls f with arguments, and the machine stands before the call, with the arguments on its stack.
pub record Calling (w : Whole) (h : Home) (u : Machine) (f : Proc) (args : List Datum) (below : List ℕ) (a : Act) (cs : List Act) (todo : List Item) (vs ls : List Datum) : Type 0 where
  pub asks : next_of (meaning w) a ≡ Calls f args todo vs ls
  pub code : CodeAt w h u.pc (call_code (w.entry f) (length args))
  pub stack : u.stack ≡ pushed w args below
  pub is : IsProcedure w.ps f
  pub reached : w.reached f ≡ true
  pub fits : ArgsFit w.ps f args
  pub gives : (v : Option Datum) → ResultFits w.ps f v → (d : Datum) × (v ≡ Some d)
  pub room : h.low + 2 * (w.needs (live (a ∷ cs)) f + (length args + length below)) ≤ h.high

-- For fewer than k instructions the code behind follows with the result on its stack, in the place of all arguments.
abbrev pub GoesOnBehind : Whole → Home → ℕ → Machine → Proc → List ℕ → Act → List Act → List Item → List Datum → List Datum → Type 0
GoesOnBehind w h k u f below a cs todo vs ls =
    (j : ℕ) (d : Datum) (own : List Datum) (v : Machine) → j < k → ResultFits w.ps f (Some d) → v.pc ≡ behind u.pc → v.r5 ≡ u.r5 → v.stack ≡ word_of w d ∷ below → Tracks w h j 2 v (with_todo a todo (d ∷ vs) ls) cs own

-- ---- a procedure that assigns to its parameter: A := A + x; RETURN(A)

abbrev pub adder : ℕ → Code
adder x = record { body = Then (Keep 0 (Two Plus (Own 0) (Num x))) (Then (GiveBack (Own 0)) Done); size = 1; most = 0 }

-- its code: the caller's frame is kept, the parameter is changed where it stands, and the result is in R0 when it returns
abbrev pub adder_code : ℕ → List Marked
adder_code x =
    quiet (Double Mov Word (Register R5) (Decrement Sp)) ∷ quiet (Double Mov Word (Register Sp) (Register R5)) ∷ quiet (Sum Add (Immediate x) (Index R5 4)) ∷ quiet (Double Mov Word (Index R5 4) (Register R0))
    ∷ quiet (Double Mov Word (Register R5) (Register Sp)) ∷ quiet (Double Mov Word (Increment PSp) (Register R5)) ∷ shown (Return Pc) ∷ []
