-- The parts at the start of an image.
use Rattle.std.specs.Prelude.{◌≡◌, ℕ, ◌+◌, ◌*◌, ◌%◌, ◌≤◌, [], ◌∷◌, false, slice_get, IfSome}
use Rattle.pdp_core.specs.declared.cpu.Regs.{Regs}
use Rattle.pdp_core.specs.declared.memory.Protection.{Protection}
use Rattle.rt_image.specs.declared.image.ImageParts.{ImageParts}
use Rattle.rt_image.specs.declared.image.ImageTask.{ImageTask}
use Rattle.rt_image.specs.Memory.{code_end, data_end, block_at, brick_at, brick_end, task_bytes}
use Rattle.rt_tasks.specs.Parts.{Sharing, Task, nowhere}

-- what all tasks share, while none runs
abbrev pub start_sharing : ImageParts → Sharing
start_sharing i = record { code = i.code; marks = i.marks; bytes = i.bytes; own = []; places = nowhere i.code i.bytes }

-- what task n may use, counted from 0
abbrev pub places_of : ImageParts → ℕ → Protection
places_of i n = record { code_end = code_end i; data_end = data_end i; block = block_at i n; brick = brick_at i n; brick_end = brick_end i n }

-- R0 to R3 and R5 are 0, R4 is the block's address, SP the address past the brick, PC the entry; the flags are clear
abbrev pub start_regs : Protection → ℕ → Regs
start_regs p entry = record { r = 0 ∷ 0 ∷ 0 ∷ 0 ∷ p.block ∷ 0 ∷ p.brick_end ∷ entry ∷ []; n = false; z = false; v = false; c = false }

-- the block holds its words, and the brick zeros
abbrev pub start_task : ImageParts → ℕ → ImageTask → Task
start_task i n t = record { regs = start_regs (places_of i n) t.entry; own = task_bytes t; places = places_of i n }

-- this is task n of an image at the start, counted from 0
abbrev pub IsStart : ImageParts → ℕ → Task → Type 0
IsStart i n task = IfSome (slice_get i.tasks n) (λ t. task ≡ start_task i n t)

-- a task's block and brick lie behind the data, at even addresses below 160000 octal
pub record IsPlaced (p : Protection) (t : ImageTask) : Type 0 where
  pub code : p.code_end ≤ p.data_end
  pub block : p.data_end ≤ p.block
  pub brick : p.brick ≡ p.block + 16
  pub brick_end : p.brick_end ≡ p.brick + 2 * t.stack
  pub inside : p.brick_end ≤ 0o160000
  pub even_data : p.data_end % 2 ≡ 0
  pub even_block : p.block % 2 ≡ 0
