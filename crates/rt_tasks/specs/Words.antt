-- The words of the code with their marks.
use Rattle.std.specs.Prelude.{ℕ, List, map}
use Rattle.rt_tasks.specs.declared.code.Marked.{Marked}

abbrev pub code_words : List Marked → List ℕ
code_words code = map (λ m. m.word) code

abbrev pub code_marks : List Marked → List ℕ
code_marks code = map (λ m. m.mark) code
