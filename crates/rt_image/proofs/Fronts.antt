-- An image is read back whatever follows it, and what is refused lies within its bytes.
use Rattle.std.proofs.Common.{ℕ, ◌+◌, ◌*◌, List, [], ◌∷◌, ◌++◌, length, sum, map, codes}
use Rattle.rt_words.specs.Format.{any, within, byte, word, block, tag, name, times, passing}
use Rattle.rt_words.specs.FormatLaws.{IsReadBack}
use Rattle.rt_words.proofs.Front.{front_nothing, front_byte, front_word, front_block, front_tag, front_name, front_then, front_each, front_times, front_passing}
use Rattle.rt_words.proofs.Within.{Within, in_nothing, in_byte, in_word, in_block, in_tag, in_name, in_then, in_each, in_times, in_passing}
use Rattle.rt_image.specs.declared.image.ImageTask.{ImageTask}
use Rattle.rt_image.specs.Grammar.{data_count, entry_below, stack_behind, is_new, code_format, data_format, task_format, tasks_format, image_format}
use Rattle.rt_image.specs.Ranges.{task_size}

-- ---- whatever follows

front_words : (n : ℕ) → IsReadBack (times (word any) n [])
front_words n = front_times (word any) (front_word any) n []

front_code : (count : ℕ) → IsReadBack (code_format count)
front_code count = front_then (times (word any) count []) _ (front_words count)
    (λ words. front_then (times (byte (within 0 2)) count []) _ (front_times (byte (within 0 2)) (front_byte (within 0 2)) count [])
    (λ marks. front_nothing (words, marks)))

front_data : (code_end : ℕ) → IsReadBack (data_format code_end)
front_data code_end = front_then (word (data_count code_end)) block (front_word (data_count code_end)) front_block

front_task : (code_end used : ℕ) (before : List ImageTask) → IsReadBack (task_format code_end used before)
front_task code_end used before = front_then (passing (is_new before) name) _ (front_passing (is_new before) name front_name)
    (λ new. front_then (byte (within 1 255)) _ (front_byte (within 1 255))
    (λ priority. front_then (word (entry_below code_end)) _ (front_word (entry_below code_end))
    (λ entry. front_then (times (word any) 8 []) _ (front_words 8)
    (λ words. front_then (word (stack_behind (used + sum (map task_size before)))) _ (front_word (stack_behind (used + sum (map task_size before))))
    (λ stack. front_nothing _)))))

front_tasks : (code_end used : ℕ) → IsReadBack (tasks_format code_end used)
front_tasks code_end used = front_then (byte (within 1 32)) _ (front_byte (within 1 32))
    (λ count. front_each (task_format code_end used) (front_task code_end used) count [])

pub front_image : IsReadBack image_format
front_image = front_then (tag (codes "RTI" ++ 1 ∷ [])) _ (front_tag (codes "RTI" ++ 1 ∷ []))
    (λ magic. front_then (word (within 1 28672)) _ (front_word (within 1 28672))
    (λ count. front_then (code_format count) _ (front_code count)
    (λ code. front_then (data_format (2 * count)) _ (front_data (2 * count))
    (λ bytes. front_then (tasks_format (2 * count) (2 * count + length bytes)) _ (front_tasks (2 * count) (2 * count + length bytes))
    (λ tasks. front_nothing _)))))

-- ---- within

in_words : (n : ℕ) → Within (times (word any) n [])
in_words n = in_times (word any) n [] (in_word any)

in_code : (count : ℕ) → Within (code_format count)
in_code count = in_then (times (word any) count []) _ (in_words count)
    (λ words. in_then (times (byte (within 0 2)) count []) _ (in_times (byte (within 0 2)) count [] (in_byte (within 0 2)))
    (λ marks. in_nothing (words, marks)))

in_data : (code_end : ℕ) → Within (data_format code_end)
in_data code_end = in_then (word (data_count code_end)) block (in_word (data_count code_end)) in_block

in_task : (code_end used : ℕ) (before : List ImageTask) → Within (task_format code_end used before)
in_task code_end used before = in_then (passing (is_new before) name) _ (in_passing (is_new before) name in_name)
    (λ new. in_then (byte (within 1 255)) _ (in_byte (within 1 255))
    (λ priority. in_then (word (entry_below code_end)) _ (in_word (entry_below code_end))
    (λ entry. in_then (times (word any) 8 []) _ (in_words 8)
    (λ words. in_then (word (stack_behind (used + sum (map task_size before)))) _ (in_word (stack_behind (used + sum (map task_size before))))
    (λ stack. in_nothing _)))))

in_tasks : (code_end used : ℕ) → Within (tasks_format code_end used)
in_tasks code_end used = in_then (byte (within 1 32)) _ (in_byte (within 1 32))
    (λ count. in_each (task_format code_end used) (in_task code_end used) count [])

pub in_image : Within image_format
in_image = in_then (tag (codes "RTI" ++ 1 ∷ [])) _ (in_tag (codes "RTI" ++ 1 ∷ []))
    (λ magic. in_then (word (within 1 28672)) _ (in_word (within 1 28672))
    (λ count. in_then (code_format count) _ (in_code count)
    (λ code. in_then (data_format (2 * count)) _ (in_data (2 * count))
    (λ bytes. in_then (tasks_format (2 * count) (2 * count + length bytes)) _ (in_tasks (2 * count) (2 * count + length bytes))
    (λ tasks. in_nothing _)))))
