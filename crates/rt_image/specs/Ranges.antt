-- The ranges that an image keeps.
use Rattle.std.specs.Prelude.{◌≡◌, ℕ, ◌+◌, ◌*◌, ◌%◌, ◌^◌, ◌<◌, ◌≤◌, List, length, sum, map, Some, slice_get}
use Rattle.std.specs.List.{AllByRecursion}
use Rattle.rt_words.specs.Named.{IsNameLength}
use Rattle.rt_image.specs.declared.image.ImageParts.{ImageParts}
use Rattle.rt_image.specs.declared.image.ImageTask.{ImageTask}

abbrev pub IsByte : ℕ → Type 0
IsByte b = b < 2 ^ 8

abbrev pub IsWord : ℕ → Type 0
IsWord w = w < 2 ^ 16

abbrev pub IsMark : ℕ → Type 0
IsMark mark = mark ≤ 2

-- what a task takes of the memory: its block of 16 bytes and its brick
abbrev pub task_size : ImageTask → ℕ
task_size t = 16 + 2 * t.stack

-- the bytes of the memory that an image takes: code, data, blocks and bricks
abbrev pub memory_size : ImageParts → ℕ
memory_size i = 2 * length i.code + length i.bytes + sum (map task_size i.tasks)

-- a task of an image whose code ends at an address
pub record HasTaskRanges (code_end : ℕ) (t : ImageTask) : Type 0 where
  pub name : IsNameLength (length t.name)
  pub each_letter : AllByRecursion IsByte t.name
  pub priority : 1 ≤ t.priority
  pub most_priority : t.priority ≤ 255
  pub even_entry : t.entry % 2 ≡ 0
  pub entry : t.entry < code_end
  pub block : length t.block ≡ 8
  pub each_block_word : AllByRecursion IsWord t.block
  pub some_stack : 1 ≤ t.stack
  pub stack : t.stack ≤ 28672

-- no two tasks have one name
abbrev pub HaveDifferentNames : List ImageTask → Type 0
HaveDifferentNames ts = (i j : ℕ) (t u : ImageTask) → i < j → slice_get ts i ≡ Some t → slice_get ts j ≡ Some u → t.name ≡ u.name → ⊥

pub record HasImageRanges (i : ImageParts) : Type 0 where
  pub some_code : 1 ≤ length i.code
  pub code : length i.code ≤ 28672
  pub each_word : AllByRecursion IsWord i.code
  pub marks : length i.marks ≡ length i.code
  pub each_mark : AllByRecursion IsMark i.marks
  pub even_data : length i.bytes % 2 ≡ 0
  pub each_byte : AllByRecursion IsByte i.bytes
  pub some_task : 1 ≤ length i.tasks
  pub tasks : length i.tasks ≤ 32
  pub each_task : AllByRecursion (HasTaskRanges (2 * length i.code)) i.tasks
  pub names : HaveDifferentNames i.tasks
  pub memory : memory_size i ≤ 57344
