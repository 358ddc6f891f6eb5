-- The readers of an image and its parts are right for their formats.
use Rattle.std.proofs.Common.{ℕ, ◌+◌, ◌*◌, List, [], ◌∷◌, ◌++◌, length, sum, map, codes}
use Rattle.rt_words.specs.Format.{any, within}
use Rattle.rt_words.specs.Format as format
use Rattle.rt_words.specs.Reading as formats
use Rattle.rt_words.proofs.Right.{Right, right_nothing, right_byte, right_word, right_block, right_tag, right_name, right_then, right_each, right_times, right_passing}
use Rattle.rt_image.specs.declared.image.ImageTask.{ImageTask}
use Rattle.rt_image.specs.Grammar.{data_count, entry_below, stack_behind, is_new, code_format, data_format, task_format, tasks_format, image_format}
use Rattle.rt_image.specs.Ranges.{task_size}
use Rattle.rt_image.specs.Reading as reads

right_words : (n : ℕ) → Right (formats.times (formats.word any) n []) (format.times (format.word any) n [])
right_words n = right_times (formats.word any) (format.word any) (right_word any) n []

right_code : (count : ℕ) → Right (reads.code count) (code_format count)
unfolding reads.code
right_code count = right_then (formats.times (formats.word any) count []) _ (format.times (format.word any) count []) _ (right_words count)
    (λ words. right_then (formats.times (formats.byte (within 0 2)) count []) _ (format.times (format.byte (within 0 2)) count []) _ (right_times (formats.byte (within 0 2)) (format.byte (within 0 2)) (right_byte (within 0 2)) count [])
    (λ marks. right_nothing (words, marks)))

right_data : (code_end : ℕ) → Right (reads.data_part code_end) (data_format code_end)
unfolding reads.data_part
right_data code_end = right_then (formats.word (data_count code_end)) formats.block (format.word (data_count code_end)) format.block (right_word (data_count code_end)) right_block

right_task : (code_end used : ℕ) (before : List ImageTask) → Right (reads.task code_end used before) (task_format code_end used before)
unfolding reads.task
right_task code_end used before = right_then (formats.passing (is_new before) formats.name) _ (format.passing (is_new before) format.name) _ (right_passing (is_new before) formats.name format.name right_name)
    (λ new. right_then (formats.byte (within 1 255)) _ (format.byte (within 1 255)) _ (right_byte (within 1 255))
    (λ priority. right_then (formats.word (entry_below code_end)) _ (format.word (entry_below code_end)) _ (right_word (entry_below code_end))
    (λ entry. right_then (formats.times (formats.word any) 8 []) _ (format.times (format.word any) 8 []) _ (right_words 8)
    (λ words. right_then (formats.word (stack_behind (used + sum (map task_size before)))) _ (format.word (stack_behind (used + sum (map task_size before)))) _ (right_word (stack_behind (used + sum (map task_size before))))
    (λ stack. right_nothing _)))))

right_tasks : (code_end used : ℕ) → Right (reads.tasks code_end used) (tasks_format code_end used)
unfolding reads.tasks
right_tasks code_end used = right_then (formats.byte (within 1 32)) _ (format.byte (within 1 32)) _ (right_byte (within 1 32))
    (λ count. right_each (reads.task code_end used) (task_format code_end used) (right_task code_end used) count [])

pub right_image : Right reads.image image_format
unfolding reads.image
right_image = right_then (formats.tag (codes "RTI" ++ 1 ∷ [])) _ (format.tag (codes "RTI" ++ 1 ∷ [])) _ (right_tag (codes "RTI" ++ 1 ∷ []))
    (λ magic. right_then (formats.word (within 1 28672)) _ (format.word (within 1 28672)) _ (right_word (within 1 28672))
    (λ count. right_then (reads.code count) _ (code_format count) _ (right_code count)
    (λ code. right_then (reads.data_part (2 * count)) _ (data_format (2 * count)) _ (right_data (2 * count))
    (λ bytes. right_then (reads.tasks (2 * count) (2 * count + length bytes)) _ (tasks_format (2 * count) (2 * count + length bytes)) _ (right_tasks (2 * count) (2 * count + length bytes))
    (λ tasks. right_nothing _)))))
