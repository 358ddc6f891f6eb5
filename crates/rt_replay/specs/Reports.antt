-- What bytes are the report of a run, and which line of other bytes is the first that isn't in its place.
use Rattle.std.specs.Prelude.{◌≡◌, ◌≢◌, ℕ, ◌-◌, ◌≤◌, true, List, [], ◌∷◌, ◌++◌, length, map, take, codes}
use Rattle.std.specs.List.{AllByRecursion}
use Rattle.pdp_core.specs.declared.cpu.Kind.{Kind}
use Rattle.rt_words.specs.Named.{IsNameLength}
use Rattle.rt_rules.specs.declared.task.State.{State}
use Rattle.rt_rules.specs.declared.task.State.TheVariants as state
use Rattle.rt_rules.specs.declared.task.TaskRow.{TaskRow}
use Rattle.rt_report.specs.Faults.{console_words, machine_words}
use Rattle.rt_report.specs.Lines.{line, lines}
use Rattle.rt_report.specs.Reports.{counted, task_words}
use Rattle.rt_meaning.specs.Runs.{are_placements}
use Rattle.rt_replay.specs.Texts.{lines_of}
use Rattle.rt_replay.specs.declared.report.Report.{Report}
use Rattle.rt_replay.specs.declared.report.ReportedTask.{ReportedTask}
use Rattle.rt_replay.specs.declared.fault.ReportFault.{ReportFault}
use Rattle.rt_replay.specs.declared.fault.ReportFault.TheVariants.{Memory, BadReport}

-- ---- the lines

-- how a run ended: so that its status says all, by a fault of an instruction (of a task, of a kind, at a place), or by a fault of the console
pub data Ending : Type 0 where
  Plain : ℕ → Ending
  Machine : List ℕ → Kind → ℕ → Ending
  Input : Ending
  Output : Ending

abbrev pub status_of : Ending → ℕ
status_of (Plain status) = status
status_of (Machine task kind at) = 4
status_of Input = 20
status_of Output = 21

-- a line of a report
pub data Line : Type 0 where
  Status : ℕ → Line
  Instructions : ℕ → Line
  Steps : ℕ → Line
  Task : ReportedTask → Line
  Ticks : ℕ → Line
  Tick : ℕ → Line
  MachineFault : List ℕ → Kind → ℕ → Line
  InputFault : Line
  OutputFault : Line

abbrev pub words : Line → List (List ℕ)
words (Status n) = counted (codes "STATUS") n
words (Instructions n) = counted (codes "INSTRUCTIONS") n
words (Steps n) = counted (codes "STEPS") n
words (Task t) = task_words t.name t.state
words (Ticks n) = counted (codes "TICKS") n
words (Tick n) = counted (codes "TICK") n
words (MachineFault task kind at) = machine_words task kind at
words InputFault = console_words 20 (codes "INPUT")
words OutputFault = console_words 21 (codes "OUTPUT")

-- a line as it is printed, with its end
abbrev pub printed : Line → List ℕ
printed l = line (words l)

-- the fault line behind all others
abbrev pub fault_lines : Ending → List Line
fault_lines (Plain status) = []
fault_lines (Machine task kind at) = MachineFault task kind at ∷ []
fault_lines Input = InputFault ∷ []
fault_lines Output = OutputFault ∷ []

-- the report of a run of so many instructions that ended so
abbrev pub report_lines : Report → ℕ → Ending → List Line
report_lines r instructions e =
    Status (status_of e) ∷ Instructions instructions ∷ Steps r.steps
    ∷ (map (λ t. Task t) r.tasks ++ (Ticks (length r.placements) ∷ (map (λ p. Tick p) r.placements ++ fault_lines e)))

abbrev pub report_text : Report → ℕ → Ending → List ℕ
report_text r instructions e = lines (map words (report_lines r instructions e))

-- ---- the ranges

-- the number of a condition is one that its type has
abbrev pub HasStateRange : State → Type 0
HasStateRange state.Ready = Unit {0}
HasStateRange (state.Delayed n) = n ≤ 65535
HasStateRange (state.Event n) = n ≤ 255
HasStateRange (state.Facility n) = n ≤ 255
HasStateRange state.Ended = Unit {0}
HasStateRange (state.Failed n) = n ≤ 65535

-- neither a space nor a line feed
abbrev pub IsInsideName : ℕ → Type 0
IsInsideName c = (c ≢ 32) × (c ≢ 10)

pub record IsReportName (name : List ℕ) : Type 0 where
  pub short : IsNameLength (length name)
  pub inside : AllByRecursion IsInsideName name

pub record HasTaskRange (t : ReportedTask) : Type 0 where
  pub name : IsReportName t.name
  pub state : HasStateRange t.state

-- what each report of a run keeps: 1 to 32 tasks, and ticks that never fall and aren't above the number of steps
pub record HasReportRanges (r : Report) : Type 0 where
  pub few_steps : r.steps ≤ 8000000000
  pub some_task : 1 ≤ length r.tasks
  pub few_tasks : length r.tasks ≤ 32
  pub tasks : AllByRecursion HasTaskRange r.tasks
  pub few_ticks : length r.placements ≤ 200000
  pub placed : are_placements r.placements r.steps ≡ true

abbrev pub HasEndingRange : Ending → Type 0
HasEndingRange (Plain status) = status ≤ 3
HasEndingRange (Machine task kind at) = IsReportName task × (at ≤ 65535)
HasEndingRange Input = Unit {0}
HasEndingRange Output = Unit {0}

-- ---- a report

-- tasks of these names, in the conditions of these rows
abbrev pub reported_tasks : List (List ℕ) → List TaskRow → List ReportedTask
reported_tasks [] ts = []
reported_tasks (n ∷ ns) [] = []
reported_tasks (n ∷ ns) (t ∷ ts) = record { name = n; state = t.state } ∷ reported_tasks ns ts

-- the bytes are the report of a run, and say so
pub record IsReport (bytes : List ℕ) (r : Report) : Type 0 where
  pub instructions : ℕ
  pub ending : Ending
  pub text : bytes ≡ report_text r instructions ending
  pub few_instructions : instructions ≤ 4000000000
  pub ended : HasEndingRange ending
  pub ranges : HasReportRanges r

-- the report of some run begins with these lines
pub record BeginsReport (front : List (List ℕ)) : Type 0 where
  pub text : List ℕ
  pub report : Report
  pub is : IsReport text report
  pub more : List (List ℕ)
  pub parts : lines_of text ≡ front ++ more

-- line n, counted from 1, is the first that isn't in its place: the report of some run begins with the lines before it, and of none with
-- it too
pub record IsBadReportLine (bytes : List ℕ) (n : ℕ) : Type 0 where
  pub before : BeginsReport (take (n - 1) (lines_of bytes))
  pub with_it : BeginsReport (take n (lines_of bytes)) → ⊥

-- why bytes are refused
abbrev pub RefusesReport : List ℕ → ReportFault → Type 0
RefusesReport bytes Memory = Unit {0}
RefusesReport bytes (BadReport n) = IsBadReportLine bytes n
