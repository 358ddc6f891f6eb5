-- What `go SYSTEM TICKS LIMIT NAME` promises, for the whole language.
--
-- Where it accepts a system, for every list of ticks, every console input and every limit: the output, the end of each task and the status
-- are those of the modules' source meaning, with each tick after the number of source steps that the report states; no task's stack pointer
-- ever leaves its brick; and a system is refused only for the named cause.
use Rattle.std.specs.Prelude.{◌≡◌, ℕ, ◌-◌, true, Bool, List, [], ◌++◌, length, map, Option}
use Rattle.std.specs.Io.KnownBytes.{Appends}
use Rattle.rt_words.specs.Causes.{Rose}
use Rattle.rt_image.specs.declared.image.ImageParts.{ImageParts}
use Rattle.rt_image.specs.Grammar.{IsImage}
use Rattle.rt_meaning_laws.specs.SourceRuns.{AreBytes}
use Rattle.rt_outside.specs.Files.{Files}
use Rattle.rt_outside.specs.Deeds.{Outside, Writes, IsDone, IsLater}
use Rattle.rt_report.specs.declared.fault.FaultLine.{FaultLine}
use Rattle.rt_report.specs.declared.fault.FaultLine.TheVariants as fault
use Rattle.rt_report.specs.Reports.{report_text}
use Rattle.rt_run.specs.declared.machine.End.{End}
use Rattle.rt_run.specs.declared.machine.End.TheVariants.{ReadFault, WriteFault}
use Rattle.rt_run.specs.Boundaries.{State, steps, instructions, state_of, boundary}
use Rattle.rt_run.specs.Inputs.{Gives}
use Rattle.rt_run.specs.Picture.{Standing}
use Rattle.rt_run.specs.Runs.{IsEnd}
use Rattle.rt_faithful.specs.Faithful.{HasNoFault}
use Rattle.rt_system.specs.declared.parts.Task.{Task}
use Rattle.rt_tasks.specs.Start.{start_sharing}
use Rattle.rt_accept.specs.Calls.{Call, before, after, NothingDone, Reports}
use Rattle.rt_headline.specs.Go.{Go, image_name, report_name}
use Rattle.rt_headline.specs.Outcome.{System, Accepts, Refuses, IsInTurn}
use Rattle.rt_headline.specs.Meaning.{IsFaithful, Means, StacksLie, status_of}
use Rattle.rt_headline.specs.Carrying.{IsRefusal, HasNoImage}

-- the names of tasks, as the lines of the system's text have them
abbrev pub names_of : List Task → List (List ℕ)
names_of = map (λ (t : Task). t.name)

-- what the report tells of a state of the machine's run: the rules, the ticks, the instructions and the steps
abbrev pub told_of : ImageParts → State → Standing
told_of image s = record { shared = start_sharing image; tasks = []; rules = s.rules; ticking = record { gaps = s.gaps; since = s.since; placements = s.placements }; count = instructions s; marks = steps s }

-- an input of the console that begins as this call was given it: by these bytes, with nothing behind them where the end was given
pub record Begins (given : List ℕ) (over : Bool) (input : List ℕ) : Type 0 where
  pub rest : List ℕ
  pub parts : input ≡ given ++ rest
  pub last : over ≡ true → rest ≡ []
  pub bytes : AreBytes input

-- The run of an image up to where it ended, with this output since and this report; and what it means.
pub record Ran (g : Go) (a : System) (image : ImageParts) (given input : List ℕ) (end : End) (from to : Outside) (report : List ℕ) (answer : ℕ) : Type 0 where
  pub state : State
  -- the run is that of exactly this image, the ticks, the input and the limit; it ends at this state
  pub run : IsEnd image a.gaps input g.limit end state
  pub output : Appends from.written to.written state.output
  pub taken : state.taken ≡ length given
  pub told : report ≡ report_text (names_of a.parts.tasks) (told_of image state) end
  -- the source's run for the placements and the steps that the report states is there, with the same output, bytes taken and conditions
  pub means : Means a.trees a.tasks input state
  -- the status is a function of the source's state, and 2 comes only at the limit
  pub status : answer ≡ status_of end means.reached.state (length a.gaps - length state.placements)
  pub limit : answer ≡ 2 → instructions state ≡ g.limit
  -- at every boundary of the run each task's stack pointer lies in its brick
  pub stacks : (k : ℕ) → StacksLie image (state_of (boundary image a.gaps input k))

-- A system that was accepted and carried out.
pub record Carried (c : Call) (g : Go) (a : System) (status : ℕ) : Type 0 where
  -- NAME.IMG gets the one spelling of an image that is faithful to the modules and tasks
  pub image : ImageParts
  pub faithful : IsFaithful a.trees a.tasks image
  pub bytes : List ℕ
  pub spelled : IsImage bytes image
  pub made : Outside
  pub written : IsDone (Writes (image_name g) bytes) (before c) made
  -- it is run: the input gave these bytes, and its end or not, and the output grew; no instruction faulted, and the console only where its
  -- count rose
  pub given : List ℕ
  pub over : Bool
  pub gives : Gives c.left given over c.left_after
  pub end : End
  pub no_fault : HasNoFault end
  pub read_failed : end ≡ ReadFault → Rose c.input_faults c.input_faults_after
  pub write_failed : end ≡ WriteFault → Rose c.faults c.faults_after
  pub ran : Outside
  pub files : ran.files ≡ made.files
  pub later : IsLater made ran
  -- it is the run over each input that begins so, with this report and this answer
  pub report : List ℕ
  pub answer : ℕ
  pub runs : (input : List ℕ) → Begins given over input → Ran g a image given input end made ran report answer
  -- NAME.RPT gets the report, and the status is the answer, or 21 where it can't be written
  pub reported : Reports (report_name g) report answer ran (after c) status

-- How a call of `go` ends that reads these files: it has done what their outcome says, or an excuse is named with its cause.
pub data Goes (files : Option Files) (c : Call) (g : Go) : ℕ → Type 0 where
  -- memory was wanted: no file changed and nothing was put
  no_memory : NothingDone c → Goes files c g 30
  -- the first refusal of the files, whose status and fault line NAME.RPT gets; nothing else is done
  refused : {f : FaultLine} {status : ℕ} → Refuses files g f → IsRefusal c g f status → Goes files c g status
  -- the read of a file failed in its turn, as its own count shows
  unread : {name : List ℕ} {status : ℕ} → IsInTurn files g name → Rose (c.reads name) (c.reads_after name) → IsRefusal c g (fault.Unread name) status → Goes files c g status
  -- the files are accepted, and the write of NAME.IMG failed, as its own count shows; nothing followed
  unwritten : {a : System} → Accepts files g a → HasNoImage c g → Goes files c g 21
  -- the files are accepted
  carried : {a : System} {status : ℕ} → Accepts files g a → Carried c g a status → Goes files c g status
