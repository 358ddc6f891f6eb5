-- What follows of each answer of `go`, and of the files: it is what `top` says of all commands.
use Rattle.std.specs.Prelude.{◌≡◌, ℕ, List, [], ◌∷◌, length, drop, Option, Some}
use Rattle.rt_words.specs.Causes.{Rose}
use Rattle.rt_report.specs.declared.fault.FaultLine.TheVariants as fault
use Rattle.rt_accept.specs.Calls.{Call, NothingDone, KeepsOthers}
use Rattle.rt_headline.specs.Go.{Go, image_name, report_name}
use Rattle.rt_headline.specs.Outcome.{System, Accepts, Refuses, IsInTurn}
use Rattle.rt_meaning_laws.specs.SourceRuns.{AreBytes}
use Rattle.rt_headline.specs.Headline.{Begins, Carried, Goes}
use Rattle.rt_outside.specs.Files.{Files, Has}
use Rattle.rt_outside.specs.Laws.{Both}

-- the answers that `go` gives; 4, 10, 12 and 15 are none
pub data IsAnswer : ℕ → Type 0 where
  ended : IsAnswer 0
  failed : IsAnswer 1
  at_limit : IsAnswer 2
  stalled : IsAnswer 3
  no_module : IsAnswer 11
  no_lines : IsAnswer 13
  no_link : IsAnswer 14
  unread : IsAnswer 20
  unwritten : IsAnswer 21
  no_memory : IsAnswer 30

abbrev pub OnlyTheseAnswers : Type 0
OnlyTheseAnswers = (files : Option Files) (c : Call) (g : Go) (status : ℕ) → Goes files c g status → IsAnswer status

-- no other file than NAME.IMG and NAME.RPT changes
abbrev pub OthersAreKept : Type 0
OthersAreKept = (files : Option Files) (c : Call) (g : Go) (status : ℕ) → Goes files c g status → KeepsOthers (image_name g ∷ report_name g ∷ []) c

-- why a file wasn't read: it isn't there in its turn, or its own count rose; or why the console wasn't: its count rose
pub data IsUnread (files : Option Files) (c : Call) (g : Go) : Type 0 where
  missing : {name : List ℕ} → Refuses files g (fault.Unread name) → IsUnread files c g
  read : {name : List ℕ} → IsInTurn files g name → Rose (c.reads name) (c.reads_after name) → IsUnread files c g
  input : {a : System} → Accepts files g a → Rose c.input_faults c.input_faults_after → IsUnread files c g

abbrev pub TwentyHasCause : Type 0
TwentyHasCause = (files : Option Files) (c : Call) (g : Go) → Goes files c g 20 → IsUnread files c g

-- why a file, or the output, wasn't written: its own count rose
pub data IsUnwritten (files : Option Files) (c : Call) (g : Go) : Type 0 where
  image : Rose (c.writes (image_name g)) (c.writes_after (image_name g)) → IsUnwritten files c g
  report : Rose (c.writes (report_name g)) (c.writes_after (report_name g)) → IsUnwritten files c g
  output : {a : System} → Accepts files g a → Rose c.faults c.faults_after → IsUnwritten files c g

abbrev pub TwentyOneHasCause : Type 0
TwentyOneHasCause = (files : Option Files) (c : Call) (g : Go) → Goes files c g 21 → IsUnwritten files c g

-- want of memory changes nothing
abbrev pub ThirtyChangesNothing : Type 0
ThirtyChangesNothing = (files : Option Files) (c : Call) (g : Go) → Goes files c g 30 → NothingDone c

-- NAME.IMG holds the image when the call is over, where files are told
abbrev pub ImagesStay : Type 0
ImagesStay = (c : Call) (g : Go) (a : System) (status : ℕ) (h : Carried c g a status) → Both c.files c.files_after (λ old new. Has (image_name g) h.bytes new)

-- Where the input tells its bytes, the run is one over these, and so many of them were taken.
abbrev pub ToldInputsAreRun : Type 0
ToldInputsAreRun = (c : Call) (g : Go) (a : System) (status : ℕ) (h : Carried c g a status) (xs : List ℕ) → c.left.left ≡ Some xs → AreBytes xs → Begins h.given h.over xs × (c.left_after.left ≡ Some (drop (length h.given) xs))
