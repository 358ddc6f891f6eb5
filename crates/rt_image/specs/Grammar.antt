-- The bytes of an image, field by field.
use Rattle.std.specs.Prelude.{ℕ, ◌+◌, ◌*◌, ◌%◌, ◌==◌, nat_lt, nat_le, Bool, true, not, ◌&&◌, List, [], ◌∷◌, ◌++◌, length, sum, map, codes, Option}
use Rattle.std.specs.List.{AllByRecursion}
use Rattle.std.specs.Str.{bytes_eq}
use Rattle.rt_words.specs.Format.{Format, Spell, AreRefusedAt, nothing, byte, word, block, tag, name, where_true, any, within, ◌>>=◌, each, times, passing}
use Rattle.rt_image.specs.declared.fault.ImageFault.{ImageFault}
use Rattle.rt_image.specs.declared.fault.ImageFault.TheVariants as fault
use Rattle.rt_image.specs.declared.image.ImageParts.{ImageParts}
use Rattle.rt_image.specs.declared.image.ImageTask.{ImageTask}
use Rattle.rt_image.specs.Ranges.{IsByte, task_size}

-- ---- fields with a range of their own

-- the number of bytes of the data behind a code that ends at an address: even, and the memory has room for them
abbrev pub data_count : ℕ → ℕ → Option ℕ
data_count code_end = where_true (λ d. d % 2 == 0 && nat_le (code_end + d) 57344)

-- the address of an instruction of a code that ends at an address
abbrev pub entry_below : ℕ → ℕ → Option ℕ
entry_below code_end = where_true (λ a. a % 2 == 0 && nat_lt a code_end)

-- whether a brick may have so many words, and the memory has room for it and its task's block behind the bytes taken
abbrev pub is_stack : ℕ → ℕ → Bool
is_stack used b = nat_le 1 b && nat_le b 28672 && nat_le (used + (16 + 2 * b)) 57344

-- the length of a brick in words, where so many bytes of the memory are taken
abbrev pub stack_behind : ℕ → ℕ → Option ℕ
stack_behind used = where_true (is_stack used)

-- whether none of the tasks has this name
abbrev pub is_new : List ImageTask → List ℕ → Bool
is_new [] n = true
is_new (t ∷ ts) n = not (bytes_eq t.name n) && is_new ts n

-- ---- the grammar

-- so many words of code, and their marks
abbrev pub code_format : ℕ → Format (List ℕ × List ℕ)
code_format count = do
  words ← times (word any) count []
  marks ← times (byte (within 0 2)) count []
  nothing (words, marks)

-- the data behind a code that ends at an address
abbrev pub data_format : ℕ → Format (List ℕ)
data_format code_end = do
  count ← word (data_count code_end)
  block count

-- a task behind others; the code ends at code_end, and used bytes of the memory are taken before the first task
abbrev pub task_format : ℕ → ℕ → List ImageTask → Format ImageTask
task_format code_end used before = do
  new ← passing (is_new before) name
  priority ← byte (within 1 255)
  entry ← word (entry_below code_end)
  words ← times (word any) 8 []
  stack ← word (stack_behind (used + sum (map task_size before)))
  nothing (record { name = new; priority = priority; entry = entry; block = words; stack = stack })

-- the tasks
abbrev pub tasks_format : ℕ → ℕ → Format (List ImageTask)
tasks_format code_end used = do
  count ← byte (within 1 32)
  each (task_format code_end used) count []

abbrev pub image_format : Format ImageParts
image_format = do
  magic ← tag (codes "RTI" ++ 1 ∷ [])
  count ← word (within 1 28672)
  code ← code_format count
  data_part ← data_format (2 * count)
  tasks ← tasks_format (2 * count) (2 * count + length data_part)
  nothing (record { code = code.0; marks = code.1; bytes = data_part; tasks = tasks })

-- ---- all of some bytes

-- the bytes are the image: they fit its fields, and no byte stands behind them
pub record IsImage (bytes : List ℕ) (image : ImageParts) : Type 0 where
  pub each_byte : AllByRecursion IsByte bytes
  pub fields : Spell image_format bytes image

-- The bytes are no image: the first field that is cut or out of range, or the first byte behind the last task, stands at p.
abbrev pub IsNoImage : List ℕ → ℕ → Type 0
IsNoImage = AreRefusedAt image_format

-- a fault of a read: want of memory, or the place of the field refused
abbrev pub Faults : List ℕ → ImageFault → Type 0
Faults bytes fault.Memory = Unit {0}
Faults bytes (fault.BadImage p) = IsNoImage bytes p
