-- What the machine does with instructions, and with the words of some templates.
use Rattle.std.specs.Prelude.{◌≡◌, ℕ, zero, suc, ◌+◌, ◌*◌, ◌<◌, ◌≤◌, false, List, [], ◌∷◌, length, drop, slice_index}
use Rattle.rt_words.specs.Word.{wrap_add, wrap_sub}
use Rattle.pdp_code.specs.declared.instruction.Reg.TheVariants.{R4, R5, Sp, Pc}
use Rattle.pdp_code.specs.declared.instruction.Pointer.TheVariants.{PSp}
use Rattle.pdp_code.specs.declared.instruction.Operand.TheVariants.{Register, Increment, IncrementDeferred, Decrement, Index, Immediate}
use Rattle.pdp_code.specs.declared.instruction.Size.TheVariants.{Word}
use Rattle.pdp_code.specs.declared.instruction.DoubleOp.TheVariants.{Mov}
use Rattle.pdp_code.specs.declared.instruction.Instr.{Instr}
use Rattle.pdp_code.specs.declared.instruction.Instr.TheVariants.{Double, Return}
use Rattle.pdp_code.specs.Code.{words_of, IsCodable}
use Rattle.pdp_core.specs.Execute.{plan}
use Rattle.pdp_symbolic.specs.Machine.{Layout, IsLaid, Machine, regs, memory, Matches, Stands, past_words}
use Rattle.pdp_symbolic.specs.Acts.{act, flagged}
use Rattle.pdp_symbolic.specs.Plans.{Access, Read, IsShared, End, Fine, Goes}

-- In every memory that holds the task, whatever the data that tasks share, the instruction at its program counter does what its act
-- says.
abbrev pub ActsAreDone : Type 0
ActsAreDone = (l : Layout) (m : ℕ → ℕ) (i : Instr) (t : Machine) → IsLaid l → IsCodable i → Matches l t m → Stands l t.pc (words_of i) → Fine l m (plan (memory l m) (regs t)) (act i t)

-- ---- templates, each on its own

-- these instructions stand in the code, one after another
abbrev pub IsCode : Layout → ℕ → List Instr → Type 0
IsCode l a [] = Unit {0}
IsCode l a (i ∷ is) = Stands l a (words_of i) × IsCode l (past_words a (words_of i)) is

-- there is room for so many words more
abbrev pub HasRoom : Layout → ℕ → Machine → Type 0
HasRoom l n t = l.low + 2 * (n + length t.stack) ≤ l.high

-- so many instructions that use nothing shared
abbrev pub silences : ℕ → List (List Access)
silences zero = []
silences (suc n) = [] ∷ silences n

-- and the task is then this
abbrev pub Silent : ℕ → Machine → End
Silent n u es v = (es ≡ silences n) × (v ≡ u)

-- a word of the shared data was read, and the task is then this
abbrev pub ReadsOne : ℕ → (ℕ → Machine) → End
ReadsOne a f es v = (x : ℕ) × (x < 65536) × (es ≡ (Read a x ∷ []) ∷ []) × (v ≡ f x)

-- the task with this stack
abbrev pub on : Machine → List ℕ → Machine
on t ws = record t { stack = ws }

-- ---- a number is pushed

abbrev pub push_number : ℕ → List Instr
push_number n = Double Mov Word (Immediate n) (Decrement Sp) ∷ []

-- with a word pushed by an instruction of two words
abbrev pub pushed : Machine → ℕ → Machine
pushed t x = flagged (record t { pc = wrap_add (wrap_add t.pc 2) 2; sp = wrap_sub t.sp 2; stack = x ∷ t.stack }) x false t.c

abbrev pub NumbersArePushed : Type 0
NumbersArePushed = (l : Layout) (t : Machine) (n : ℕ) → IsLaid l → IsCode l t.pc (push_number n) → HasRoom l 1 t → Goes l 1 (Silent 1 (pushed t n)) t

-- ---- an item of the task's own data is pushed: the k-th word of its block

abbrev pub push_item : ℕ → List Instr
push_item k = Double Mov Word (Index R4 (2 * k)) (Decrement Sp) ∷ []

abbrev pub ItemsArePushed : Type 0
ItemsArePushed = (l : Layout) (t : Machine) (k : ℕ) → k < 8 → IsLaid l → IsCode l t.pc (push_item k) → HasRoom l 1 t → Goes l 1 (Silent 1 (pushed t (slice_index t.block k))) t

-- ---- a word of the shared data takes the place of its address: it is read once, and what is read is what then stands there

abbrev pub fetch_word : List Instr
fetch_word = Double Mov Word (IncrementDeferred PSp) (Decrement Sp) ∷ []

abbrev pub fetched : Machine → List ℕ → ℕ → Machine
fetched t ws x = flagged (record t { pc = wrap_add t.pc 2; sp = wrap_sub (wrap_add t.sp 2) 2; stack = x ∷ ws }) x false t.c

abbrev pub WordsAreFetched : Type 0
WordsAreFetched = (l : Layout) (t : Machine) (a : ℕ) (ws : List ℕ) → IsLaid l → IsCode l t.pc fetch_word → HasRoom l 1 (on t ws) → IsShared l a → Goes l 1 (ReadsOne a (fetched t ws)) (on t (a ∷ ws))

-- ---- a procedure ends: what lies above its frame goes, the caller's frame comes back, and it returns

abbrev pub end_procedure : List Instr
end_procedure = Double Mov Word (Register R5) (Register Sp) ∷ Double Mov Word (Increment PSp) (Register R5) ∷ Return Pc ∷ []

-- at the place to which it returns, with the caller's frame and stack
abbrev pub returned : Machine → ℕ → ℕ → List ℕ → Machine
returned t kept back below = flagged (record t { pc = back; r5 = kept; sp = wrap_add (wrap_add t.r5 2) 2; stack = below }) kept false t.c

abbrev pub ProceduresEnd : Type 0
ProceduresEnd = (l : Layout) (t : Machine) (k kept back : ℕ) (below : List ℕ) → IsLaid l → IsCode l t.pc end_procedure → t.r5 ≡ t.sp + 2 * k → k ≤ length t.stack → drop k t.stack ≡ kept ∷ back ∷ below → Goes l 3 (Silent 3 (returned t kept back below)) t
