-- What `run IMAGE TICKS LIMIT REPORT` is to do.
use Rattle.std.specs.Prelude.{◌≡◌, ◌⊎◌, ℕ, ◌≤◌, List, [], length, Option}
use Rattle.rt_commands.specs.Commands.{IsCommand}
use Rattle.rt_commands.specs.declared.command.Command.TheVariants as command
use Rattle.rt_commands.specs.declared.lent.TimedWords.{TimedWords}
use Rattle.rt_image.specs.declared.image.ImageParts.{ImageParts}
use Rattle.rt_outside.specs.Files.{Files}
use Rattle.rt_report.specs.declared.fault.FaultLine.{FaultLine}
use Rattle.rt_report.specs.declared.fault.FaultLine.TheVariants as fault
use Rattle.rt_report.specs.Faults.{status_of, refusal_text}
use Rattle.rt_report.specs.Reports.{room_for}
use Rattle.rt_run.specs.Boundaries.{start}
use Rattle.rt_run.specs.Picture.{Shows}
use Rattle.rt_words.specs.Causes.{Rose}
use Rattle.rt_accept.specs.Calls.{Call, before, after, KeepsInput, NothingDone, Reports}
use Rattle.rt_accept.specs.declared.reading.Unaccepted.{Unaccepted}
use Rattle.rt_headline.specs.Carrying.{names_of, IsCarried}
use Rattle.rt_top.specs.declared.running.Ready.{Ready}
use Rattle.rt_accept.specs.Reading.{HasImage, RefusesImage, HasTicks, RefusesTicks, IsDeclined}

-- what is asked: the names of the image and of the tick text, the limit, and the name of the report
pub record Asked : Type 0 where
  pub image : List ℕ
  pub ticks : List ℕ
  pub limit : ℕ
  pub report : List ℕ

abbrev pub asked : TimedWords → Asked
asked w = record { image = w.first.now; ticks = w.second.now; limit = w.limit; report = w.last.now }

abbrev pub IsRun : List (List ℕ) → Asked → Type 0
IsRun words r = IsCommand words (command.Run r.image r.ticks r.limit r.report)

-- ---- the files, in their turn

abbrev pub Refuses : Option Files → Asked → FaultLine → Type 0
Refuses files r f = RefusesImage files r.image f ⊎ ((i : ImageParts) × HasImage files r.image i × RefusesTicks files r.ticks f)

-- the file of this name is read in its turn, those before it being accepted
abbrev pub IsInTurn : Option Files → Asked → List ℕ → Type 0
IsInTurn files r name = (name ≡ r.image) ⊎ ((i : ImageParts) × HasImage files r.image i × (name ≡ r.ticks))

-- why the files aren't accepted
abbrev pub IsRefused : Option Files → (List ℕ → ℕ) → (List ℕ → ℕ) → Asked → Unaccepted → Type 0
IsRefused files reads reads_after r = IsDeclined (IsInTurn files r) (Refuses files r) reads reads_after

-- ---- what was done

-- a run that stands at its start, the names of its tasks, and room for its report
pub record IsReady (image : ImageParts) (gaps : List ℕ) (r : Ready) : Type 0 where
  pub names : r.names ≡ names_of image.tasks
  pub few : length r.names ≤ 32
  pub begins : Shows image r.run (start image gaps)
  pub empty : r.report.items ≡ []
  pub room : room_for r.names (length gaps) ≤ r.report.spare

pub record Begins (r : Ready) : Type 0 where
  pub image : ImageParts
  pub gaps : List ℕ
  pub ready : IsReady image gaps r

-- a refusal is reported, and nothing else is done
pub record IsRefusal (c : Call) (r : Asked) (f : FaultLine) (status : ℕ) : Type 0 where
  pub reported : Reports r.report (refusal_text f) (status_of f) (before c) (after c) status
  pub input : KeepsInput c

-- how the command ends
pub data RunEnds (c : Call) (r : Asked) : ℕ → Type 0 where
  -- memory was wanted
  no_memory : NothingDone c → RunEnds c r 30
  -- a file is refused in its turn
  refused : {f : FaultLine} {status : ℕ} → Refuses c.files r f → IsRefusal c r f status → RunEnds c r status
  -- or its read failed, by its own count
  unread : {name : List ℕ} {status : ℕ} → IsInTurn c.files r name → Rose (c.reads name) (c.reads_after name) → IsRefusal c r (fault.Unread name) status → RunEnds c r status
  -- both are accepted
  carried : {image : ImageParts} {gaps : List ℕ} {status : ℕ} → HasImage c.files r.image image → HasTicks c.files r.ticks gaps → IsCarried c (before c) r.limit r.report image gaps status → RunEnds c r status
