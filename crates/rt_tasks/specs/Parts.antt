-- The parts of the memory and of the machine: what all tasks share, and what is one task's own.
use Rattle.std.specs.Prelude.{◌≡◌, ℕ, ◌+◌, ◌*◌, ◌%◌, ◌≤◌, List, [], length, take, drop, min}
use Rattle.pdp_core.specs.declared.cpu.Regs.{Regs}
use Rattle.pdp_core.specs.declared.memory.Protection.{Protection}

-- what all tasks share; while a task runs, its block and brick stand beside it, with the addresses of what it may use
pub record Sharing : Type 0 where
  pub code : List ℕ  -- words
  pub marks : List ℕ  -- one for each word of the code
  pub bytes : List ℕ  -- the data
  pub own : List ℕ  -- the bytes of the running task's block, and of its brick behind it
  pub places : Protection

-- what a task owns
pub record Task : Type 0 where
  pub regs : Regs
  pub own : List ℕ  -- the bytes of its block, and of its brick behind it
  pub places : Protection

-- the block and the brick, of the bytes of both
abbrev pub block_of : List ℕ → List ℕ
block_of own = take 16 own

abbrev pub brick_of : List ℕ → List ℕ
brick_of own = drop 16 own

-- how the parts of one task lie: the data, its block of 16 bytes, its brick; each begins and ends at an even address, and no byte
-- lies at address 160000 octal or behind it
pub record LieInOrder (own : List ℕ) (p : Protection) : Type 0 where
  pub code : p.code_end ≤ p.data_end
  pub block : p.data_end ≤ p.block
  pub brick : p.brick ≡ p.block + 16
  pub brick_end : p.brick ≤ p.brick_end
  pub all_own : p.block + length own ≡ min p.brick_end 0o160000
  pub low : p.brick_end ≤ 0o160020
  pub even_data : p.data_end % 2 ≡ 0
  pub even_block : p.block % 2 ≡ 0
  pub even_end : p.brick_end % 2 ≡ 0

-- these are the addresses where this code and these data end
abbrev pub EndAt : List ℕ → List ℕ → Protection → Type 0
EndAt code bytes p = (p.code_end ≡ 2 * length code) × (p.data_end ≡ 2 * length code + length bytes)

-- no block and no brick: they lie where nobody may use them
abbrev pub nowhere : List ℕ → List ℕ → Protection
nowhere code bytes =
    record { code_end = 2 * length code; data_end = 2 * length code + length bytes; block = 0o160000; brick = 0o160020; brick_end = 0o160020 }

-- no task runs
abbrev pub at_rest : Sharing → Sharing
at_rest s = record { code = s.code; marks = s.marks; bytes = s.bytes; own = []; places = nowhere s.code s.bytes }

-- a task runs
abbrev pub with_task : Sharing → Task → Sharing
with_task s t = record { code = s.code; marks = s.marks; bytes = s.bytes; own = t.own; places = t.places }

-- the task that runs, with its registers
abbrev pub task_of : Regs → Sharing → Task
task_of g s = record { regs = g; own = s.own; places = s.places }
