-- The one memory that an image makes, and where its parts lie.
use Rattle.std.specs.Prelude.{ℕ, zero, suc, ◌+◌, ◌*◌, ◌/◌, ◌%◌, ◌==◌, if◌then◌else◌, List, [], ◌∷◌, ◌++◌, length, replicate, slice_index, slice_get, Option, Some, None}
use Rattle.rt_words.specs.Bytes.{word_bytes}
use Rattle.rt_image.specs.declared.image.ImageParts.{ImageParts}
use Rattle.rt_image.specs.declared.image.ImageTask.{ImageTask}
use Rattle.rt_image.specs.Ranges.{task_size}

abbrev pub words_bytes : List ℕ → List ℕ
words_bytes [] = []
words_bytes (w ∷ ws) = word_bytes w ++ words_bytes ws

-- where the code ends and the data begins
abbrev pub code_end : ImageParts → ℕ
code_end i = 2 * length i.code

-- where the data ends and the first block begins
abbrev pub data_end : ImageParts → ℕ
data_end i = code_end i + length i.bytes

-- where the block of task n stands, counted from 0, of tasks from an address on
abbrev pub block_from : List ImageTask → ℕ → ℕ → ℕ
block_from [] n a = a
block_from (t ∷ ts) zero a = a
block_from (t ∷ ts) (suc n) a = block_from ts n (a + task_size t)

-- the address of the block of task n, counted from 0
abbrev pub block_at : ImageParts → ℕ → ℕ
block_at i n = block_from i.tasks n (data_end i)

-- the address of the brick of task n, counted from 0
abbrev pub brick_at : ImageParts → ℕ → ℕ
brick_at i n = block_at i n + 16

abbrev pub stack_words : Option ImageTask → ℕ
stack_words None = 0
stack_words (Some t) = t.stack

-- the address past the brick of task n, counted from 0
abbrev pub brick_end : ImageParts → ℕ → ℕ
brick_end i n = brick_at i n + 2 * stack_words (slice_get i.tasks n)

-- the bytes of a task at the start: its block, and a brick of zeros
abbrev pub task_bytes : ImageTask → List ℕ
task_bytes t = words_bytes t.block ++ replicate (2 * t.stack) 0

abbrev pub tasks_bytes : List ImageTask → List ℕ
tasks_bytes [] = []
tasks_bytes (t ∷ ts) = task_bytes t ++ tasks_bytes ts

-- the bytes of the memory at the start: code, data, and each task's block and brick
abbrev pub memory_bytes : ImageParts → List ℕ
memory_bytes i = words_bytes i.code ++ (i.bytes ++ tasks_bytes i.tasks)

-- the byte at each address at the start; behind the last brick there are zeros
abbrev pub start_memory : ImageParts → ℕ → ℕ
start_memory i a = slice_index (memory_bytes i) a

-- the mark of the instruction that begins at an address: none begins at an odd one, or behind the code
abbrev pub mark_at : ImageParts → ℕ → ℕ
mark_at i a = if a % 2 == 0 then slice_index i.marks (a / 2) else 0
