-- The instruction that begins some words.
use Rattle.std.specs.Prelude.{◌≡◌, ℕ, ◌+◌, List, ◌++◌, Option, Some, None, slice_get}
use Rattle.pdp_code.specs.declared.instruction.Operand.{Operand}
use Rattle.pdp_code.specs.declared.instruction.Operand.TheVariants.{Register, Deferred, Increment, IncrementDeferred, Decrement, DecrementDeferred, Index, IndexDeferred, Immediate, Absolute}
use Rattle.pdp_code.specs.declared.instruction.Instr.{Instr}
use Rattle.pdp_code.specs.declared.instruction.Instr.TheVariants.{Double, Sum, Single, OnWord, OnRegister, Branch, Loop, Jump, Call, Return, Trap, Flags}
use Rattle.pdp_code.specs.Code.{words_of, IsCodable}
use Rattle.pdp_code.specs.First.{first_of}

-- one part after another, where each is there
abbrev pub chain : {A B : Type 0} → Option A → (A → Option B) → Option B
chain None f = None
chain (Some x) f = f x

-- how many words follow for an operand
abbrev pub count : Operand → ℕ
count (Register r) = 0
count (Deferred r) = 0
count (Increment p) = 0
count (IncrementDeferred p) = 0
count (Decrement r) = 0
count (DecrementDeferred r) = 0
count (Index r x) = 1
count (IndexDeferred r x) = 1
count (Immediate x) = 1
count (Absolute x) = 1

-- an operand with its word
abbrev pub filled : Operand → List ℕ → ℕ → Option Operand
filled (Register r) ws at = Some (Register r)
filled (Deferred r) ws at = Some (Deferred r)
filled (Increment p) ws at = Some (Increment p)
filled (IncrementDeferred p) ws at = Some (IncrementDeferred p)
filled (Decrement r) ws at = Some (Decrement r)
filled (DecrementDeferred r) ws at = Some (DecrementDeferred r)
filled (Index r x) ws at = chain (slice_get ws at) (λ w. Some (Index r w))
filled (IndexDeferred r x) ws at = chain (slice_get ws at) (λ w. Some (IndexDeferred r w))
filled (Immediate x) ws at = chain (slice_get ws at) (λ w. Some (Immediate w))
filled (Absolute x) ws at = chain (slice_get ws at) (λ w. Some (Absolute w))

-- an instruction with its words, and how many words it has
abbrev pub completed : Instr → List ℕ → Option (Instr × ℕ)
completed (Double o z s d) ws = chain (filled s ws 1) (λ s2. chain (filled d ws (1 + count s)) (λ d2. Some (Double o z s2 d2, 1 + count s + count d)))
completed (Sum o s d) ws = chain (filled s ws 1) (λ s2. chain (filled d ws (1 + count s)) (λ d2. Some (Sum o s2 d2, 1 + count s + count d)))
completed (Single o z d) ws = chain (filled d ws 1) (λ d2. Some (Single o z d2, 1 + count d))
completed (OnWord o d) ws = chain (filled d ws 1) (λ d2. Some (OnWord o d2, 1 + count d))
completed (OnRegister o r s) ws = chain (filled s ws 1) (λ s2. Some (OnRegister o r s2, 1 + count s))
completed (Branch c n) ws = Some (Branch c n, 1)
completed (Loop r n) ws = Some (Loop r n, 1)
completed (Jump d) ws = chain (filled d ws 1) (λ d2. Some (Jump d2, 1 + count d))
completed (Call r d) ws = chain (filled d ws 1) (λ d2. Some (Call r d2, 1 + count d))
completed (Return r) ws = Some (Return r, 1)
completed (Trap n) ws = Some (Trap n, 1)
completed (Flags u n z v c) ws = Some (Flags u n z v c, 1)

abbrev pub decoded : List ℕ → Option (Instr × ℕ)
decoded ws = chain (slice_get ws 0) (λ w. chain (first_of w) (λ i. completed i ws))

-- the words of an instruction begin these words
abbrev pub Begins : Instr → List ℕ → Type 0
Begins i ws = IsCodable i × ((rest : List ℕ) × (ws ≡ words_of i ++ rest))
