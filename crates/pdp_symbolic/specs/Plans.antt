-- Several instructions, one after another, whatever the others do between them.
use Rattle.std.specs.Prelude.{◌≡◌, ℕ, zero, suc, ◌+◌, ◌*◌, ◌%◌, ◌<◌, ◌≤◌, true, false, ◌&&◌, nat_le, List, [], ◌∷◌, length, slice_index, slice_set, drop, Result, Ok}
use Rattle.pdp_code.specs.declared.instruction.Instr.{Instr}
use Rattle.pdp_code.specs.Code.{words_of, IsCodable}
use Rattle.pdp_core.specs.declared.cpu.Failure.{Failure}
use Rattle.pdp_core.specs.declared.cpu.Stop.TheVariants.{Went, Trap as Service}
use Rattle.pdp_core.specs.World.{word_at, byte_at, put_word, put_byte}
use Rattle.pdp_core.specs.Execute.{Outcome, execute}
use Rattle.pdp_symbolic.specs.Machine.{Layout, Machine, regs, memory, Matches, SameData, Stands}
use Rattle.pdp_symbolic.specs.Acts.{Act, Quiet, Reads, ReadsByte, Writes, WritesByte, ReadsOwn, WritesOwn, ReadsBlock, WritesBlock, Cuts, Grows, Splits, Asks, Lost, act}

-- an access to the shared data
pub data Access : Type 0 where
  Read : ℕ → ℕ → Access
  ReadByte : ℕ → ℕ → Access
  Wrote : ℕ → ℕ → Access
  WroteByte : ℕ → ℕ → Access

-- a word of the shared data
pub record IsShared (l : Layout) (a : ℕ) : Type 0 where
  pub even : a % 2 ≡ 0
  pub above : l.code_end ≤ a
  pub below : a + 1 < l.data_end

-- a byte of the shared data
pub record IsSharedByte (l : Layout) (a : ℕ) : Type 0 where
  pub above : l.code_end ≤ a
  pub below : a < l.data_end

-- the shared data have another word, and are else as they were
abbrev pub WritesData : Layout → ℕ → ℕ → (ℕ → ℕ) → (ℕ → ℕ) → Type 0
WritesData l a x m m' = (b : ℕ) → l.code_end ≤ b → b < l.data_end → m' b ≡ put_word m a x b

-- the same with another byte
abbrev pub WritesDataByte : Layout → ℕ → ℕ → (ℕ → ℕ) → (ℕ → ℕ) → Type 0
WritesDataByte l a x m m' = (b : ℕ) → l.code_end ≤ b → b < l.data_end → m' b ≡ put_byte m a x b

-- the outcome is that the task goes on
abbrev pub done : Layout → Machine → (ℕ → ℕ) → Outcome
done l t m = record { stop = Went; regs = regs t; world = memory l m }

-- the instruction leaves this task, and the shared data as it was
pub record Leaves (l : Layout) (m : ℕ → ℕ) (o : Result Outcome Failure) (t : Machine) : Type 0 where
  pub after : ℕ → ℕ
  pub does : o ≡ Ok (done l t after)
  pub matches : Matches l t after
  pub same : SameData l m after

-- the same, with a word written
pub record LeavesWord (l : Layout) (m : ℕ → ℕ) (o : Result Outcome Failure) (a x : ℕ) (t : Machine) : Type 0 where
  pub after : ℕ → ℕ
  pub does : o ≡ Ok (done l t after)
  pub matches : Matches l t after
  pub wrote : WritesData l a x m after

-- the same, with a byte written
pub record LeavesByte (l : Layout) (m : ℕ → ℕ) (o : Result Outcome Failure) (a x : ℕ) (t : Machine) : Type 0 where
  pub after : ℕ → ℕ
  pub does : o ≡ Ok (done l t after)
  pub matches : Matches l t after
  pub wrote : WritesDataByte l a x m after

-- the outcome at a memory is as the act says
abbrev pub Fine : Layout → (ℕ → ℕ) → Result Outcome Failure → Act → Type 0
Fine l m o (Quiet t) = Leaves l m o t
Fine l m o (Reads a f) = IsShared l a → Fine l m o (f (word_at m a))
Fine l m o (ReadsByte a f) = IsSharedByte l a → Fine l m o (f (byte_at m a))
Fine l m o (Writes a x t) = IsShared l a → LeavesWord l m o a x t
Fine l m o (WritesByte a x t) = IsSharedByte l a → LeavesByte l m o a x t
Fine l m o (ReadsOwn a t f) = (k : ℕ) → a ≡ t.sp + 2 * k → k < length t.stack → Fine l m o (f (slice_index t.stack k))
Fine l m o (WritesOwn a x t) = (k : ℕ) → a ≡ t.sp + 2 * k → k < length t.stack → Leaves l m o (record t { stack = slice_set t.stack k x })
Fine l m o (ReadsBlock x t f) = (k : ℕ) → x ≡ 2 * k → k < 8 → Fine l m o (f (slice_index t.block k))
Fine l m o (WritesBlock x y t) = (k : ℕ) → x ≡ 2 * k → k < 8 → Leaves l m o (record t { block = slice_set t.block k y })
Fine l m o (Cuts x t) = (k : ℕ) → x ≡ t.sp + 2 * k → k ≤ length t.stack → Leaves l m o (record t { sp = x; stack = drop k t.stack })
Fine l m o (Grows n a) = l.low + 2 * n ≤ l.high → Fine l m o a
Fine l m o (Splits b x y) = (b ≡ true → Fine l m o x) × (b ≡ false → Fine l m o y)
Fine l m o (Asks n t) = (nat_le 1 n && nat_le n 11) ≡ true → (o ≡ Ok (record { stop = Service n; regs = regs t; world = memory l m })) × Matches l t m
Fine l m o Lost = Unit {0}

-- what the accesses of one instruction saw and did
abbrev pub Shows : Layout → (ℕ → ℕ) → (ℕ → ℕ) → List Access → Type 0
Shows l m m' [] = SameData l m m'
Shows l m m' (Read a x ∷ e) = IsShared l a × (word_at m a ≡ x) × Shows l m m' e
Shows l m m' (ReadByte a x ∷ e) = IsSharedByte l a × (byte_at m a ≡ x) × Shows l m m' e
Shows l m m' (Wrote a x ∷ e) = IsShared l a × WritesData l a x m m'
Shows l m m' (WroteByte a x ∷ e) = IsSharedByte l a × WritesDataByte l a x m m'

-- what comes after one instruction
abbrev pub After : Type 1
After = List Access → Machine → Type 0

-- the act is possible, and what comes after it holds
abbrev pub Asked : Layout → Act → After → Type 0
Asked l (Quiet t) k = k [] t
Asked l (Reads a f) k = IsShared l a × ((x : ℕ) → x < 65536 → Asked l (f x) (λ e t. k (Read a x ∷ e) t))
Asked l (ReadsByte a f) k = IsSharedByte l a × ((x : ℕ) → x < 256 → Asked l (f x) (λ e t. k (ReadByte a x ∷ e) t))
Asked l (Writes a x t) k = IsShared l a × k (Wrote a x ∷ []) t
Asked l (WritesByte a x t) k = IsSharedByte l a × k (WroteByte a x ∷ []) t
Asked l (ReadsOwn a t f) k = (i : ℕ) × (a ≡ t.sp + 2 * i) × (i < length t.stack) × Asked l (f (slice_index t.stack i)) k
Asked l (WritesOwn a x t) k = (i : ℕ) × (a ≡ t.sp + 2 * i) × (i < length t.stack) × k [] (record t { stack = slice_set t.stack i x })
Asked l (ReadsBlock x t f) k = (i : ℕ) × (x ≡ 2 * i) × (i < 8) × Asked l (f (slice_index t.block i)) k
Asked l (WritesBlock x y t) k = (i : ℕ) × (x ≡ 2 * i) × (i < 8) × k [] (record t { block = slice_set t.block i y })
Asked l (Cuts x t) k = (i : ℕ) × (x ≡ t.sp + 2 * i) × (i ≤ length t.stack) × k [] (record t { sp = x; stack = drop i t.stack })
Asked l (Grows n a) k = (l.low + 2 * n ≤ l.high) × Asked l a k
Asked l (Splits b x y) k = (b ≡ true → Asked l x k) × (b ≡ false → Asked l y k)
Asked l (Asks n t) k = ⊥
Asked l Lost k = ⊥

-- what comes after several instructions, with the accesses of each
abbrev pub End : Type 1
End = List (List Access) → Machine → Type 0

-- these instructions are what the task meets, and the end holds after them
abbrev pub Plans : Layout → List Instr → End → Machine → Type 0
Plans l [] q t = q [] t
Plans l (i ∷ is) q t = IsCodable i × Stands l t.pc (words_of i) × Asked l (act i t) (λ e u. Plans l is (λ es v. q (e ∷ es) v) u)

-- the machine goes on from a memory
pub record Next (l : Layout) (m : ℕ → ℕ) (o : Outcome) (k : After) : Type 0 where
  pub after : ℕ → ℕ
  pub accesses : List Access
  pub task : Machine
  pub does : o ≡ done l task after
  pub matches : Matches l task after
  pub shows : Shows l m after accesses
  pub then : k accesses task

-- the machine carries out this many instructions from a task, whatever stands in the shared data before each, and the end holds
abbrev pub Goes : Layout → ℕ → End → Machine → Type 0
Goes l zero q t = q [] t
Goes l (suc n) q t = (m : ℕ → ℕ) → Matches l t m → Next l m (execute (memory l m) (regs t)) (λ e u. Goes l n (λ es v. q (e ∷ es) v) u)
