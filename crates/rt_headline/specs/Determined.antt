-- Where files are told, the outcome is one: a system isn't both accepted and refused. So `go` does what the files say, but for named excuses.
use Rattle.std.specs.Prelude.{◌≡◌, ◌⊎◌, ℕ, List, Option, Some}
use Rattle.rt_words.specs.Causes.{Rose}
use Rattle.rt_outside.specs.Files.{Files}
use Rattle.rt_report.specs.declared.fault.FaultLine.{FaultLine}
use Rattle.rt_report.specs.declared.fault.FaultLine.TheVariants as fault
use Rattle.rt_report.specs.declared.fault.Form.{Form}
use Rattle.rt_report.specs.Faults.{status_of}
use Rattle.rt_accept.specs.Calls.{Call, NothingDone}
use Rattle.rt_headline.specs.Go.{Go}
use Rattle.rt_headline.specs.Outcome.{System, Accepts, Refuses, IsInTurn}
use Rattle.rt_headline.specs.Carrying.{IsRefusal, HasNoImage}
use Rattle.rt_headline.specs.Headline.{Carried, Goes}

abbrev pub NeverBoth : Type 0
NeverBoth = (files : Files) (g : Go) (a : System) (f : FaultLine) → Accepts (Some files) g a → Refuses (Some files) g f → ⊥

-- an excuse: memory was wanted, or the read of a file failed in its turn
pub data IsExcused (files : Option Files) (c : Call) (g : Go) : ℕ → Type 0 where
  no_memory : NothingDone c → IsExcused files c g 30
  unread : {name : List ℕ} {status : ℕ} → IsInTurn files g name → Rose (c.reads name) (c.reads_after name) → IsRefusal c g (fault.Unread name) status → IsExcused files c g status

-- where told files are accepted: the headline, or an excuse, or NAME.IMG couldn't be written
pub data IsAccepted (files : Option Files) (c : Call) (g : Go) : ℕ → Type 0 where
  excused : {status : ℕ} → IsExcused files c g status → IsAccepted files c g status
  unwritten : HasNoImage c g → IsAccepted files c g 21
  carried : {a : System} {status : ℕ} → Accepts files g a → Carried c g a status → IsAccepted files c g status

abbrev pub WhereAccepted : Type 0
WhereAccepted = (files : Files) (c : Call) (g : Go) (status : ℕ) (a : System) → Accepts (Some files) g a → Goes (Some files) c g status → IsAccepted (Some files) c g status

-- where they are refused: the first refusal, or an excuse
pub data IsRefusedFor (files : Option Files) (c : Call) (g : Go) : ℕ → Type 0 where
  excused : {status : ℕ} → IsExcused files c g status → IsRefusedFor files c g status
  refused : {f : FaultLine} {status : ℕ} → Refuses files g f → IsRefusal c g f status → IsRefusedFor files c g status

abbrev pub WhereRefused : Type 0
WhereRefused = (files : Files) (c : Call) (g : Go) (status : ℕ) (f : FaultLine) → Refuses (Some files) g f → Goes (Some files) c g status → IsRefusedFor (Some files) c g status

-- the same fault line; of parts of the language that are left out at one item it is free by which form it is told
pub data SameLine : FaultLine → FaultLine → Type 0 where
  same : {f : FaultLine} → SameLine f f
  forms : {file : List ℕ} {line : ℕ} {form form2 : Form} → SameLine (fault.LeftOut file line form) (fault.LeftOut file line form2)

-- the same; or both are verdicts: which right cycle is printed is free
abbrev pub AreAlike : FaultLine → FaultLine → Type 0
AreAlike f f2 = SameLine f f2 ⊎ ((status_of f ≡ 14) × (status_of f2 ≡ 14))

-- told files are refused for one cause
abbrev pub OneRefusal : Type 0
OneRefusal = (files : Files) (g : Go) (f f2 : FaultLine) → Refuses (Some files) g f → Refuses (Some files) g f2 → AreAlike f f2
