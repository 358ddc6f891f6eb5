-- The bytes of an image, as they are written.
use Rattle.std.specs.Prelude.{ℕ, List, [], ◌∷◌, ◌++◌, length, codes}
use Rattle.rt_words.specs.Spelling.{spell_all, words_bytes, name_bytes}
use Rattle.rt_words.specs.Bytes.{word_bytes}
use Rattle.rt_image.specs.declared.image.ImageParts.{ImageParts}
use Rattle.rt_image.specs.declared.image.ImageTask.{ImageTask}

abbrev pub code_spelling : ImageParts → List ℕ
code_spelling i = word_bytes (length i.code) ++ (words_bytes i.code ++ i.marks)

abbrev pub data_spelling : ImageParts → List ℕ
data_spelling i = word_bytes (length i.bytes) ++ i.bytes

abbrev pub task_spelling : ImageTask → List ℕ
task_spelling t = name_bytes t.name ++ (t.priority ∷ (word_bytes t.entry ++ (words_bytes t.block ++ word_bytes t.stack)))

abbrev pub tasks_spelling : ImageParts → List ℕ
tasks_spelling i = length i.tasks ∷ spell_all task_spelling i.tasks

abbrev pub image_spelling : ImageParts → List ℕ
image_spelling i = (codes "RTI" ++ 1 ∷ []) ++ (code_spelling i ++ (data_spelling i ++ tasks_spelling i))
