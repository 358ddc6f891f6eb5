-- The report of a run.
use Rattle.std.specs.Prelude.{ℕ, ◌+◌, ◌-◌, ◌*◌, nat_lt, Bool, true, false, ◌||◌, if◌then◌else◌, List, [], ◌∷◌, ◌++◌, length, map, codes, decimal, Option, Some, None, slice_get}
use Rattle.rt_rules.specs.declared.task.State.{State}
use Rattle.rt_rules.specs.declared.task.State.TheVariants as state
use Rattle.rt_rules.specs.declared.task.TaskRow.{TaskRow}
use Rattle.rt_run.specs.declared.machine.End.{End}
use Rattle.rt_run.specs.declared.machine.End.TheVariants.{Ended, Limit, Stalled, Fault, ReadFault, WriteFault}
use Rattle.rt_run.specs.Picture.{Standing}
use Rattle.rt_report.specs.Faults.{console_words, machine_words}
use Rattle.rt_report.specs.Lines.{lines}

-- ---- tasks

-- an error's number is signed
abbrev pub signed_text : ℕ → List ℕ
signed_text n = if nat_lt n 32768 then decimal n else codes "-" ++ decimal (65536 - n)

abbrev pub condition_words : State → List (List ℕ)
condition_words state.Ready = codes "READY" ∷ []
condition_words (state.Delayed n) = codes "DELAYED" ∷ decimal n ∷ []
condition_words (state.Event n) = codes "EVENT" ∷ decimal n ∷ []
condition_words (state.Facility n) = codes "FACILITY" ∷ decimal n ∷ []
condition_words state.Ended = codes "ENDED" ∷ []
condition_words (state.Failed n) = codes "ERROR" ∷ signed_text n ∷ []

abbrev pub task_words : List ℕ → State → List (List ℕ)
task_words name s = codes "TASK" ∷ name ∷ condition_words s

abbrev pub task_lines : List (List ℕ) → List TaskRow → List (List (List ℕ))
task_lines [] ts = []
task_lines (n ∷ ns) [] = []
task_lines (n ∷ ns) (t ∷ ts) = task_words n t.state ∷ task_lines ns ts

-- the name of task i, from 1 on
abbrev pub name_or_none : Option (List ℕ) → List ℕ
name_or_none None = []
name_or_none (Some n) = n

abbrev pub name_at : List (List ℕ) → ℕ → List ℕ
name_at names i = name_or_none (slice_get names (i - 1))

-- ---- the status

abbrev pub has_failed : State → Bool
has_failed (state.Failed n) = true
has_failed _ = false

abbrev pub any_failed : List TaskRow → Bool
any_failed [] = false
any_failed (t ∷ ts) = has_failed t.state || any_failed ts

-- 0 where all tasks ended without error, 1 where they ended and one with an error
abbrev pub run_status : End → List TaskRow → ℕ
run_status Ended ts = if any_failed ts then 1 else 0
run_status Limit ts = 2
run_status Stalled ts = 3
run_status (Fault i k at) ts = 4
run_status ReadFault ts = 20
run_status WriteFault ts = 21

-- ---- the report

abbrev pub counted : List ℕ → ℕ → List (List ℕ)
counted word n = word ∷ decimal n ∷ []

-- the ticks taken: the visible steps before each
abbrev pub tick_lines : List ℕ → List (List (List ℕ))
tick_lines = map (counted (codes "TICK"))

-- the fault line behind all others, where the run ended by a fault
abbrev pub end_lines : List (List ℕ) → End → List (List (List ℕ))
end_lines names (Fault i k at) = machine_words (name_at names i) k at ∷ []
end_lines names ReadFault = console_words 20 (codes "INPUT") ∷ []
end_lines names WriteFault = console_words 21 (codes "OUTPUT") ∷ []
end_lines names _ = []

abbrev pub count_lines : ℕ → Standing → List (List (List ℕ))
count_lines status d = counted (codes "STATUS") status ∷ counted (codes "INSTRUCTIONS") d.count ∷ counted (codes "STEPS") d.marks ∷ []

-- the report of a run that stands so, of tasks of these names
abbrev pub report_text : List (List ℕ) → Standing → End → List ℕ
report_text names d end =
    lines (count_lines (run_status end d.rules.tasks) d) ++ (lines (task_lines names d.rules.tasks) ++ (lines (counted (codes "TICKS") (length d.ticking.placements) ∷ tick_lines d.ticking.placements) ++ lines (end_lines names end)))

-- ---- room

-- for the lines of tasks of these names
abbrev pub names_room : List (List ℕ) → ℕ
names_room [] = 0
names_room (n ∷ ns) = length n + 22 + names_room ns

-- for each report of a run of tasks of these names, with so many ticks
abbrev pub room_for : List (List ℕ) → ℕ → ℕ
room_for names ticks = 200 + 2 * names_room names + 27 * ticks
