-- The texts of `gen N NAME`: a module, a system, and ticks.
use Rattle.std.specs.Prelude.{ℕ, zero, suc, ◌+◌, ◌%◌, List, [], ◌∷◌, ◌++◌, codes, decimal}
use Rattle.rt_outside.specs.Deeds.{Deed, Writes}
use Rattle.rt_outside.specs.Files.{Files}
use Rattle.rt_outside.specs.Held.{first_of}

-- how many tasks there are
abbrev pub tasks_of : ℕ → ℕ
tasks_of n = 1 + n % 16

-- this for task k and each of the next ones, so many in all
abbrev pub each_from : (ℕ → List ℕ) → ℕ → ℕ → List ℕ
each_from f k zero = []
each_from f k (suc n) = f k ++ each_from f (k + 1) n

-- ---- the module

abbrev pub stack_line : ℕ → List ℕ
stack_line k = codes "ENT STACK S" ++ (decimal k ++ codes " 60;\n")

abbrev pub root_line : ℕ → List ℕ
root_line k = codes "ENT PROC T" ++ (decimal k ++ (codes "(); WORK(" ++ (decimal k ++ codes ") ENDPROC;\n")))

-- the title, the data, and the procedure that each task calls
abbrev pub module_front : ℕ → List ℕ
module_front n =
    codes "TITLE GEN;\nSVC PROC(INT) SECURE, RELEASE;\nEXT PROC(INT) IWRT, NLS;\nDATA D; INT SUM, LEFT := " ++ (decimal (tasks_of n) ++ (codes "; ENDDATA;\nPROC WORK(INT K);\nTO " ++ (decimal n ++ codes " DO SECURE(1); SUM := SUM + K; RELEASE(1) REP;\nSECURE(1); LEFT := LEFT - 1;\nIF LEFT = 0 THEN IWRT(SUM); NLS(1) END;\nRELEASE(1)\nENDPROC;\n")))

abbrev pub module_text : ℕ → List ℕ
module_text n = module_front n ++ (each_from stack_line 1 (tasks_of n) ++ each_from root_line 1 (tasks_of n))

-- ---- the system and the ticks

abbrev pub task_line : ℕ → List ℕ
task_line k = codes "TASK T" ++ (decimal k ++ (codes " T" ++ (decimal k ++ (codes " S" ++ (decimal k ++ codes " 10\n")))))

abbrev pub system_text : ℕ → List ℕ → List ℕ
system_text n name = codes "LIBRARY\nMODULE " ++ (name ++ (codes ".RTL\n" ++ each_from task_line 1 (tasks_of n)))

abbrev pub tick_text : List ℕ
tick_text = codes "97*200\n"

-- ---- the files

abbrev pub module_name : List ℕ → List ℕ
module_name name = name ++ codes ".RTL"

abbrev pub system_name : List ℕ → List ℕ
system_name name = name ++ codes ".SYS"

abbrev pub ticks_name : List ℕ → List ℕ
ticks_name name = name ++ codes ".TCK"

abbrev pub writes_of : ℕ → List ℕ → List Deed
writes_of n name = Writes (module_name name) (module_text n) ∷ Writes (system_name name) (system_text n name) ∷ Writes (ticks_name name) tick_text ∷ []

-- these three files alone
abbrev pub files_of : ℕ → List ℕ → Files
files_of n name = first_of ((module_name name, module_text n) ∷ (system_name name, system_text n name) ∷ (ticks_name name, tick_text) ∷ [])

-- ---- the line that is put behind the run

abbrev pub summary_front : ℕ → List ℕ
summary_front n = codes "GEN " ++ (decimal n ++ (codes " TASKS " ++ (decimal (tasks_of n) ++ codes " STATUS ")))

abbrev pub summary : ℕ → ℕ → List ℕ
summary n status = summary_front n ++ (decimal status ++ codes "\n")
