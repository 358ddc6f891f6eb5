-- Images and their parts as functions from the bytes that stand there.
use Rattle.std.specs.Prelude.{ℕ, ◌+◌, ◌*◌, List, [], ◌∷◌, ◌++◌, length, sum, map, codes}
use Rattle.rt_words.specs.Format.{any, within}
use Rattle.rt_words.specs.Reading.{Reader, nothing, byte, word, block, tag, name, ◌>>=◌, each, times, passing}
use Rattle.rt_image.specs.declared.image.ImageParts.{ImageParts}
use Rattle.rt_image.specs.declared.image.ImageTask.{ImageTask}
use Rattle.rt_image.specs.Grammar.{data_count, entry_below, stack_behind, is_new}
use Rattle.rt_image.specs.Ranges.{task_size}

unfoldable pub code : ℕ → Reader (List ℕ × List ℕ)
code count = do
  words ← times (word any) count []
  marks ← times (byte (within 0 2)) count []
  nothing (words, marks)

unfoldable pub data_part : ℕ → Reader (List ℕ)
data_part code_end = do
  count ← word (data_count code_end)
  block count

unfoldable pub task : ℕ → ℕ → List ImageTask → Reader ImageTask
task code_end used before = do
  new ← passing (is_new before) name
  priority ← byte (within 1 255)
  entry ← word (entry_below code_end)
  words ← times (word any) 8 []
  stack ← word (stack_behind (used + sum (map task_size before)))
  nothing (record { name = new; priority = priority; entry = entry; block = words; stack = stack })

unfoldable pub tasks : ℕ → ℕ → Reader (List ImageTask)
tasks code_end used = do
  count ← byte (within 1 32)
  each (task code_end used) count []

unfoldable pub image : Reader ImageParts
image = do
  magic ← tag (codes "RTI" ++ 1 ∷ [])
  count ← word (within 1 28672)
  found ← code count
  bytes ← data_part (2 * count)
  all ← tasks (2 * count) (2 * count + length bytes)
  nothing (record { code = found.0; marks = found.1; bytes = bytes; tasks = all })
