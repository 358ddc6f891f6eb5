-- The text of a map. Addresses are octal, with six digits; all other numbers are decimal.
use Rattle.std.specs.Prelude.{ℕ, List, [], ◌∷◌, ◌++◌, codes, decimal}
use Rattle.rt_words.specs.Operators.{octal6}
use Rattle.rt_report.specs.Lines.{line, dotted}
use Rattle.rt_image.specs.declared.map.Map.{Map}
use Rattle.rt_image.specs.declared.map.MapProc.{MapProc}
use Rattle.rt_image.specs.declared.map.MapTask.{MapTask}

-- where a part begins, and how many bytes it has
unfoldable pub part_line : List ℕ → ℕ × ℕ → List ℕ
part_line word p = line (word ∷ octal6 p.0 ∷ decimal p.1 ∷ [])

-- a task by its name, the addresses of its block and its stack brick, the words that this has, and those that the task needs
unfoldable pub words_line : List ℕ → List ℕ → List ℕ → ℕ → ℕ → List ℕ
words_line name block stack words need = line (codes "TASK" ∷ name ∷ codes "BLOCK" ∷ block ∷ codes "STACK" ∷ stack ∷ decimal words ∷ codes "NEED" ∷ decimal need ∷ [])

unfoldable pub task_line : MapTask → List ℕ
task_line t = words_line t.name (octal6 t.block) (octal6 t.stack) t.words t.need

unfoldable pub proc_line : MapProc → List ℕ
proc_line p = line (codes "PROC" ∷ dotted p.title p.name ∷ octal6 p.at ∷ [])

abbrev pub task_lines : List MapTask → List ℕ
task_lines [] = []
task_lines (t ∷ ts) = task_line t ++ task_lines ts

abbrev pub proc_lines : List MapProc → List ℕ
proc_lines [] = []
proc_lines (p ∷ ps) = proc_line p ++ proc_lines ps

-- the lines of code and data, of the tasks, and of the procedures
abbrev pub map_text : Map → List ℕ
map_text m = part_line (codes "CODE") m.code ++ (part_line (codes "DATA") m.«data» ++ (task_lines m.tasks ++ proc_lines m.procs))
