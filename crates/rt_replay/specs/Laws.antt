-- The laws of reports.
use Rattle.std.specs.Prelude.{◌≡◌, ℕ, ◌≤◌, List, length}
use Rattle.std.specs.List.{AllByRecursion}
use Rattle.rt_rules.specs.declared.task.TaskRow.{TaskRow}
use Rattle.rt_image.specs.declared.image.ImageParts.{ImageParts}
use Rattle.rt_image.specs.Ranges.{HasImageRanges}
use Rattle.rt_run.specs.declared.machine.End.{End}
use Rattle.rt_run.specs.declared.machine.End.TheVariants.{Fault}
use Rattle.rt_resolve.specs.World.{World}
use Rattle.rt_meaning.specs.Run as source
use Rattle.rt_run.specs.Boundaries.{State}
use Rattle.rt_run.specs.Picture.{Standing, Shows}
use Rattle.rt_run.specs.Runs.{IsEnd}
use Rattle.rt_system.specs.Fields.{IsNamed}
use Rattle.rt_report.specs.Reports.{report_text}
use Rattle.rt_replay.specs.Reports.{reported_tasks, HasReportRanges, HasStateRange, IsReportName, IsReport, IsBadReportLine}
use Rattle.rt_replay.specs.Replays.{Answer, IsAnswer}
use Rattle.rt_replay.specs.declared.report.Report.{Report}

-- ---- one reading

-- what a text is read as
pub data Reading : Type 0 where
  Says : Report → Reading
  Bad : ℕ → Reading

abbrev pub Reads : List ℕ → Reading → Type 0
Reads bytes (Says r) = IsReport bytes r
Reads bytes (Bad n) = IsBadReportLine bytes n

abbrev pub HaveOneReading : Type 0
HaveOneReading = (bytes : List ℕ) (r q : Reading) → Reads bytes r → Reads bytes q → r ≡ q

abbrev pub HaveSomeReading : Type 0
HaveSomeReading = (bytes : List ℕ) → (r : Reading) × Reads bytes r

-- ---- what is written

-- what the report of a run says that stands so, of tasks of these names
abbrev pub said_of : List (List ℕ) → Standing → Report
said_of names d = record { steps = d.marks; tasks = reported_tasks names d.rules.tasks; placements = d.ticking.placements }

abbrev pub HasRowRange : TaskRow → Type 0
HasRowRange t = HasStateRange t.state

-- the place of a fault is a word
abbrev pub HasPlaceRange : End → Type 0
HasPlaceRange (Fault i kind at) = at ≤ 65535
HasPlaceRange _ = Unit {0}

-- A run of an image under at most 200,000 ticks that stands so at its end, after at most 4,000,000,000 instructions, with or without a
-- fault of the console. Its tasks have these names, none with a space or a line feed inside; numbers are those that their types have.
pub record IsRunOf (image : ImageParts) (gaps all : List ℕ) (limit : ℕ) (names : List (List ℕ)) (d : Standing) (end : End) : Type 0 where
  pub ranges : HasImageRanges image
  pub few_ticks : length gaps ≤ 200000
  pub state : State
  pub shows : Shows image d state
  pub ends : IsEnd image gaps all limit end state
  pub few : d.count ≤ 4000000000
  pub count : length names ≡ length image.tasks
  pub names_are : AllByRecursion IsReportName names
  pub conditions : AllByRecursion HasRowRange d.rules.tasks
  pub place : HasPlaceRange end

-- what is written as the report of a run is a report, and says what the run came to
abbrev pub WrittenReportsAreRead : Type 0
WrittenReportsAreRead = (image : ImageParts) (gaps all : List ℕ) (limit : ℕ) (names : List (List ℕ)) (d : Standing) (end : End) → IsRunOf image gaps all limit names d end → IsReport (report_text names d end) (said_of names d)

-- the names of the tasks of a system are such names
abbrev pub SystemNamesAreReportNames : Type 0
SystemNamesAreReportNames = (name : List ℕ) → IsNamed name name → IsReportName name

-- ---- replays

-- the replay of a report has just one answer
abbrev pub HaveOneAnswer : Type 0
HaveOneAnswer = (w : World) (begin : source.State) (names : List (List ℕ)) (r : Report) (input : List ℕ) (a b : Answer) → IsAnswer w begin names r input a → IsAnswer w begin names r input b → a ≡ b

abbrev pub HaveSomeAnswer : Type 0
HaveSomeAnswer = (w : World) (begin : source.State) (names : List (List ℕ)) (r : Report) (input : List ℕ) → HasReportRanges r → (a : Answer) × IsAnswer w begin names r input a
