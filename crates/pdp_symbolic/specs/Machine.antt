-- A task of the machine as templates see it: its registers as numbers, the words of its brick from the stack pointer up, and those of
-- its block; and the memories in which it is so.
use Rattle.std.specs.Prelude.{◌≡◌, ℕ, ◌+◌, ◌*◌, ◌%◌, ◌<◌, ◌≤◌, Bool, List, [], ◌∷◌, length}
use Rattle.rt_words.specs.Word.{wrap_add}
use Rattle.pdp_core.specs.declared.cpu.Regs.{Regs}
use Rattle.pdp_core.specs.declared.memory.Protection.{Protection}
use Rattle.pdp_core.specs.World.{World, word_at}
use Rattle.pdp_core.specs.Protection.{protected}

-- where the parts of the memory lie, and the bytes of the code
pub record Layout : Type 0 where
  pub code : ℕ → ℕ
  pub code_end : ℕ
  pub data_end : ℕ
  pub block : ℕ
  pub low : ℕ  -- the task's brick
  pub high : ℕ

abbrev pub protection : Layout → Protection
protection l = record { code_end = l.code_end; data_end = l.data_end; block = l.block; brick = l.low; brick_end = l.high }

-- a memory as the task meets it
abbrev pub memory : Layout → (ℕ → ℕ) → World
memory l m = protected (protection l) m

-- the parts lie one after another
pub record IsLaid (l : Layout) : Type 0 where
  pub shared : l.code_end ≤ l.data_end
  pub after : l.data_end ≤ l.block
  pub even_block : l.block % 2 ≡ 0
  pub behind : l.block + 16 ≤ l.low
  pub order : l.low ≤ l.high
  pub even : l.high % 2 ≡ 0
  pub top : l.high ≤ 57344

-- ---- a task

pub record Machine : Type 0 where
  pub r0 : ℕ
  pub r1 : ℕ
  pub r2 : ℕ
  pub r3 : ℕ
  pub r4 : ℕ
  pub r5 : ℕ
  pub sp : ℕ
  pub pc : ℕ
  pub n : Bool
  pub z : Bool
  pub v : Bool
  pub c : Bool
  pub stack : List ℕ
  pub block : List ℕ

abbrev pub regs : Machine → Regs
regs t = record { r = t.r0 ∷ t.r1 ∷ t.r2 ∷ t.r3 ∷ t.r4 ∷ t.r5 ∷ t.sp ∷ t.pc ∷ []; n = t.n; z = t.z; v = t.v; c = t.c }

-- the same without flags
pub record Held : Type 0 where
  pub r0 : ℕ
  pub r1 : ℕ
  pub r2 : ℕ
  pub r3 : ℕ
  pub r4 : ℕ
  pub r5 : ℕ
  pub sp : ℕ
  pub pc : ℕ
  pub stack : List ℕ
  pub block : List ℕ

abbrev pub held : Machine → Held
held t = record { r0 = t.r0; r1 = t.r1; r2 = t.r2; r3 = t.r3; r4 = t.r4; r5 = t.r5; sp = t.sp; pc = t.pc; stack = t.stack; block = t.block }

-- ---- a task in a memory

-- these words stand in memory one after another
abbrev pub WordsAt : (ℕ → ℕ) → ℕ → List ℕ → Type 0
WordsAt m a [] = Unit {0}
WordsAt m a (x ∷ xs) = (word_at m a ≡ x) × WordsAt m (a + 2) xs

-- A memory in which a task is as told: its stack reaches up to the end of its brick, and R4 is its block. Nothing is said of the data
-- that tasks share.
pub record Holds (l : Layout) (t : Held) (m : ℕ → ℕ) : Type 0 where
  pub stack : WordsAt m t.sp t.stack
  pub full : t.sp + 2 * length t.stack ≡ l.high
  pub low : l.low ≤ t.sp
  pub block : WordsAt m l.block t.block
  pub eight : length t.block ≡ 8
  pub code : (a : ℕ) → a < l.code_end → m a ≡ l.code a
  pub r0 : t.r0 < 65536
  pub r1 : t.r1 < 65536
  pub r2 : t.r2 < 65536
  pub r3 : t.r3 < 65536
  pub r4 : t.r4 ≡ l.block
  pub r5 : t.r5 < 65536
  pub pc : t.pc < 65536

-- the same of a task with its flags
abbrev pub Matches : Layout → Machine → (ℕ → ℕ) → Type 0
Matches l t m = Holds l (held t) m

-- the shared data are as they were
abbrev pub SameData : Layout → (ℕ → ℕ) → (ℕ → ℕ) → Type 0
SameData l m m' = (a : ℕ) → l.code_end ≤ a → a < l.data_end → m' a ≡ m a

-- ---- code

-- these words stand in the code
abbrev pub Stands : Layout → ℕ → List ℕ → Type 0
Stands l a [] = Unit {0}
Stands l a (x ∷ xs) = (a % 2 ≡ 0) × (a + 1 < l.code_end) × (word_at l.code a ≡ x) × Stands l (wrap_add a 2) xs

-- where what comes after some words stands
abbrev pub past_words : ℕ → List ℕ → ℕ
past_words a [] = a
past_words a (x ∷ xs) = past_words (wrap_add a 2) xs
