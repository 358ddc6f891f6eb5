-- What `go` does, deed by deed: this is what its code promises. What it means is said apart, in `Headline.antt`.
use Rattle.std.specs.Prelude.{◌≡◌, ℕ, List, map, Option}
use Rattle.rt_words.specs.Causes.{Rose}
use Rattle.rt_image.specs.declared.image.ImageParts.{ImageParts}
use Rattle.rt_image.specs.declared.image.ImageTask.{ImageTask}
use Rattle.rt_image.specs.declared.map.Map.{Map}
use Rattle.rt_image.specs.Grammar.{IsImage}
use Rattle.rt_outside.specs.Files.{Files}
use Rattle.rt_outside.specs.Deeds.{Outside, Writes, IsDone, HasFailed, IsLater}
use Rattle.rt_report.specs.declared.fault.FaultLine.{FaultLine}
use Rattle.rt_report.specs.declared.fault.FaultLine.TheVariants as fault
use Rattle.rt_report.specs.Faults.{status_of, refusal_text}
use Rattle.rt_report.specs.Reports.{report_text, run_status}
use Rattle.rt_run.specs.declared.machine.End.{End}
use Rattle.rt_run.specs.declared.machine.End.TheVariants.{ReadFault, WriteFault}
use Rattle.rt_run.specs.Boundaries.{start}
use Rattle.rt_run.specs.Picture.{Standing, Shows}
use Rattle.rt_run.specs.Runs.{Runs}
use Rattle.rt_link.specs.Linked.{IsLinked}
use Rattle.rt_system.specs.SystemRanges.{HasSystemRanges}
use Rattle.rt_accept.specs.Calls.{Call, before, after, KeepsInput, NothingDone, Reports}
use Rattle.rt_headline.specs.Go.{Go, image_name, report_name}
use Rattle.rt_headline.specs.Outcome.{System, Accepts, Refuses, IsInTurn}

abbrev pub names_of : List ImageTask → List (List ℕ)
names_of = map (λ (t : ImageTask). t.name)

-- The run of an image under ticks, up to the limit, with the console of the call, from a moment on; and its report, which is written
-- whatever the run came to. A fault of the console comes only where its count rose.
pub record IsCarried (c : Call) (from : Outside) (limit : ℕ) (report : List ℕ) (image : ImageParts) (gaps : List ℕ) (status : ℕ) : Type 0 where
  pub first : Standing
  pub last : Standing
  pub end : End
  pub middle : Outside  -- what is written to, once the run is over
  pub begins : Shows image first (start image gaps)
  pub runs : Runs limit end first c.left from.written last c.left_after middle.written
  pub files : middle.files ≡ from.files
  pub later : IsLater from middle
  pub read_failed : end ≡ ReadFault → Rose c.input_faults c.input_faults_after
  pub write_failed : end ≡ WriteFault → Rose from.faults middle.faults
  pub reported : Reports report (report_text (names_of image.tasks) last end) (run_status end last.rules.tasks) middle (after c) status

-- an accepted system is linked, its image written, run, and the run reported
pub record IsCarriedOut (c : Call) (g : Go) (a : System) (status : ℕ) : Type 0 where
  pub ranges : HasSystemRanges a.parts
  pub image : ImageParts
  pub its_map : Map
  pub linked : IsLinked a.objects a.parts.tasks image its_map
  pub bytes : List ℕ
  pub spelled : IsImage bytes image
  pub made : Outside  -- what is written to, once the image is
  pub written : IsDone (Writes (image_name g) bytes) (before c) made
  pub carried : IsCarried c made g.limit (report_name g) image a.gaps status

-- a refusal is reported, and nothing else is done
pub record IsRefusal (c : Call) (g : Go) (f : FaultLine) (status : ℕ) : Type 0 where
  pub reported : Reports (report_name g) (refusal_text f) (status_of f) (before c) (after c) status
  pub input : KeepsInput c

-- the write of the image failed, and nothing followed
pub record HasNoImage (c : Call) (g : Go) : Type 0 where
  pub bytes : List ℕ
  pub failed : HasFailed (Writes (image_name g) bytes) (before c) (after c)
  pub input : KeepsInput c

-- How the command ends, where it reads these files: those of the store, or texts that were made.
pub data GoEnds (files : Option Files) (c : Call) (g : Go) : ℕ → Type 0 where
  -- memory was wanted
  no_memory : NothingDone c → GoEnds files c g 30
  -- a file or the system is refused in its turn
  refused : {f : FaultLine} {status : ℕ} → Refuses files g f → IsRefusal c g f status → GoEnds files c g status
  -- or the read of a file failed, by its own count
  unread : {name : List ℕ} {status : ℕ} → IsInTurn files g name → Rose (c.reads name) (c.reads_after name) → IsRefusal c g (fault.Unread name) status → GoEnds files c g status
  -- all is accepted, and the image can't be written
  unwritten : {a : System} → Accepts files g a → HasNoImage c g → GoEnds files c g 21
  -- or it is, and is run
  carried : {a : System} {status : ℕ} → Accepts files g a → IsCarriedOut c g a status → GoEnds files c g status
