-- What a procedure's code does from its entry on, for k instructions, given what comes after its return.
use Rattle.std.specs.Prelude.{◌≡◌, ℕ, zero, suc, ◌+◌, ◌*◌, ◌<◌, ◌≤◌, true, false, List, ◌∷◌, ◌++◌, length, Option, Some, None}
use Rattle.rt_tree_nodes.specs.declared.operators.Op2.{Op2}
use Rattle.rt_tree_nodes.specs.declared.operators.Op2.TheVariants.{Divide, Mod}
use Rattle.rt_tree_nodes.specs.declared.store.Proc.{Proc}
use Rattle.rt_tree_nodes.specs.declared.store.Datum.{Datum}
use Rattle.rt_work_state.specs.Items.{Errors}
use Rattle.rt_work_state.specs.Stores.{erl_in}
use Rattle.rt_work.specs.declared.numbers.Share.{Share}
use Rattle.rt_work.specs.declared.numbers.Share.TheVariants.{Gives, Fails}
use Rattle.rt_work.specs.Numbers.{divided, turns}
use Rattle.rt_meaning.specs.Step.{Act, Doing, with_todo, on_values, entered, next_of}
use Rattle.rt_meaning_laws.specs.Work.{IsProcedure}
use Rattle.rt_icode_meaning.specs.Typed.{ArgsFit, ResultFits}
use Rattle.pdp_symbolic.specs.Machine.{Machine, regs}
use Rattle.rt_follows.specs.Whole.{Whole, Home, meaning, word_of, pushed}
use Rattle.rt_follows.specs.Held.{Holds}
use Rattle.rt_follows.specs.Follows.{Follows}

-- a task follows from a state of its own on, in every memory that holds it
abbrev pub Tracks : Whole → Home → ℕ → ℕ → Machine → Act → List Act → List Datum → Type 0
Tracks w h k q u a cs own = (m : ℕ → ℕ) → Holds w h u own m → Follows w h k q (regs u) m (Doing a cs own)

-- how many activations of bounded procedures are live: there are none yet
abbrev pub live : List Act → ℕ
live cs = 0

-- ---- procedures

-- the result is in R0
abbrev pub AnswerIn : Whole → Machine → Option Datum → Type 0
AnswerIn w u None = Unit {0}
AnswerIn w u (Some d) = u.r0 ≡ word_of w d

-- a call has just been made: the return's address stands on the arguments
pub record Called (w : Whole) (h : Home) (f : Proc) (u : Machine) (back kept : ℕ) (args : List Datum) (below : List ℕ) (callers : List Act) : Type 0 where
  pub pc : u.pc ≡ w.entry f
  pub r5 : u.r5 ≡ kept
  pub stack : u.stack ≡ back ∷ pushed w args below
  pub fits : ArgsFit w.ps f args
  pub room : h.low + 2 * (w.needs (live callers) f + (length args + length below)) ≤ h.high

-- A procedure came back: the caller's frame, the result in R0, and on the stack as many words as there were arguments. The procedure may
-- have written to them, since parameters are its own.
pub record Back (w : Whole) (u : Machine) (back kept : ℕ) (v : Option Datum) (words : List ℕ) : Type 0 where
  pub pc : u.pc ≡ back
  pub r5 : u.r5 ≡ kept
  pub answer : AnswerIn w u v
  pub stack : u.stack ≡ words

-- What the caller c of procedure f, and those below it, promise for fewer than k instructions: c goes on with the result, whatever the
-- words in the place of the arguments and the task's own data are then.
pub record GoesOn (w : Whole) (h : Home) (k : ℕ) (f : Proc) (back kept count : ℕ) (below : List ℕ) (c : Act) (cs : List Act) : Type 0 where
  pub returns : (j : ℕ) → j < k → (v : Option Datum) → ResultFits w.ps f v → (own : List Datum) (u : Machine) (xs : List ℕ) → length xs ≡ count → Back w u back kept v (xs ++ below) → Tracks w h j 0 u (with_todo c c.todo (on_values v c.values) c.locals) cs own

-- for k instructions
abbrev pub ProcRuns : Whole → Home → ℕ → Proc → Type 0
ProcRuns w h k f =
    (u : Machine) (back kept : ℕ) (args : List Datum) (below : List ℕ) (c : Act) (cs : List Act) (own : List Datum) → Called w h f u back kept args below (c ∷ cs) → GoesOn w h k f back kept (length args) below c cs
    → Tracks w h k 0 u (entered ((meaning w).code f) f args (erl_in own)) (c ∷ cs) own

-- ---- routines of the support code

-- the numbers of the routines: of an error, of a quotient, of a remainder, of the turns of a FOR
abbrev pub error_routine : ℕ → ℕ
error_routine n = 10 + n

abbrev pub quotient_routine : ℕ
quotient_routine = 13

abbrev pub remainder_routine : ℕ
remainder_routine = 14

abbrev pub turns_routine : ℕ
turns_routine = 15

-- a jump to the routine of an error ends the task, after at most seven unmarked instructions more
abbrev pub ErrorRuns : Whole → Home → ℕ → ℕ → Type 0
ErrorRuns w h k n =
    (u : Machine) (q : ℕ) (a : Act) (cs : List Act) (own : List Datum) → u.pc ≡ w.support (error_routine n) → q + 7 ≤ w.bound → next_of (meaning w) a ≡ Errors n → Tracks w h k q u a cs own

-- what a routine takes under the return's address: anything, or a dividend
abbrev pub AnyStack : List ℕ → Type 0
AnyStack stack = Unit {0}

abbrev pub HasDividend : List ℕ → Type 0
HasDividend stack = (x : ℕ) × (rest : List ℕ) × (stack ≡ x ∷ rest)

-- A routine that makes no visible step: from its entry, with the return's address on the stack and what it takes under it, it comes back
-- after at most `most` unmarked instructions, with what it gives, as many words on the stack, and the source's task as it was.
abbrev pub Serves : Whole → Home → ℕ → ℕ → ℕ → (List ℕ → Type 0) → (ℕ → List ℕ → Machine → Machine → Type 0) → Type 0
Serves w h k n most takes gives =
    (u : Machine) (q back : ℕ) (stack : List ℕ) (a : Act) (cs : List Act) (own : List Datum) → u.pc ≡ w.support n → u.stack ≡ back ∷ stack → takes stack → q + most ≤ w.bound
    → ((j r : ℕ) (v : Machine) → j < k → r ≤ q + most → v.pc ≡ back → length v.stack ≡ length stack → v.r5 ≡ u.r5 → gives back stack u v → Tracks w h j r v a cs own) → Tracks w h k q u a cs own

-- the result in the place of the dividend and C clear, or the number of an error there and C set
abbrev pub SharesOut : Share → List ℕ → Machine → Type 0
SharesOut (Gives x) rest v = (v.stack ≡ x ∷ rest) × (v.c ≡ false)
SharesOut (Fails n) rest v = (v.stack ≡ n ∷ rest) × (v.c ≡ true)

-- the dividend lies under the return's address, and the divisor is in R1
abbrev pub Divides : Op2 → ℕ → List ℕ → Machine → Machine → Type 0
Divides o back stack u v = (x : ℕ) (rest : List ℕ) → stack ≡ x ∷ rest → SharesOut (divided o x u.r1) rest v

-- no turn and C clear, or C set and in R0 the turns behind the first
abbrev pub CountIs : ℕ → Machine → Type 0
CountIs zero v = v.c ≡ false
CountIs (suc n) v = (v.c ≡ true) × (v.r0 ≡ n)

-- the turns from R2 to R1 by R3
abbrev pub Counts : ℕ → List ℕ → Machine → Machine → Type 0
Counts back stack u v = CountIs (turns u.r2 u.r3 u.r1) v × (v.stack ≡ stack)

-- ---- all together

pub record RoutinesRun (w : Whole) (h : Home) (k : ℕ) : Type 0 where
  pub error : ErrorRuns w h k 1
  pub quotient : Serves w h k quotient_routine 11 HasDividend (Divides Divide)
  pub remainder : Serves w h k remainder_routine 11 HasDividend (Divides Mod)
  pub turns_of : Serves w h k turns_routine 17 AnyStack Counts

-- for fewer than k instructions, every procedure that is reached and every routine
pub record Before (w : Whole) (h : Home) (k : ℕ) : Type 0 where
  pub procs : (j : ℕ) → j < k → (f : Proc) → IsProcedure w.ps f → w.reached f ≡ true → ProcRuns w h j f
  pub routines : (j : ℕ) → j < k → RoutinesRun w h j
