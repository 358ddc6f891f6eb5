-- The steps of `go`.
use Rattle.std.specs.Prelude.{◌≡◌, ◌⊎◌, ℕ, List, Option, string_bytes}
use Rattle.rt_commands.specs.declared.lent.TimedWords.{TimedWords}
use Rattle.rt_image.specs.declared.image.ImageParts.{ImageParts}
use Rattle.rt_image.specs.declared.map.Map.{Map}
use Rattle.rt_image.specs.Grammar.{IsImage}
use Rattle.rt_outside.specs.Deeds.{Outside, Writes, IsDone}
use Rattle.rt_outside.specs.Files.{Files}
use Rattle.rt_report.specs.Faults.{status_of, refusal_text}
use Rattle.rt_system.specs.SystemRanges.{HasSystemRanges}
use Rattle.rt_link.specs.Linked.{IsLinked}
use Rattle.rt_accept.specs.declared.modules.Modules.{Modules}
use Rattle.rt_accept.specs.declared.reading.Unaccepted.{Unaccepted}
use Rattle.rt_accept.specs.declared.reading.Unaccepted.TheVariants.{Memory, Refused, Failed}
use Rattle.rt_accept.specs.Calls.{Call, before, IsKept, Reports}
use Rattle.rt_accept.specs.Reading.{IsDeclined}
use Rattle.rt_headline.specs.Go.{Go, image_name, report_name}
use Rattle.rt_headline.specs.Outcome.{System, Accepts, Refuses, IsInTurn}
use Rattle.rt_headline.specs.Carrying.{IsCarried, HasNoImage}
use Rattle.rt_top.specs.declared.carrying.Prepared.{Prepared}
use Rattle.rt_top.specs.declared.running.Accepted.{Accepted}
use Rattle.rt_top.specs.Running.{IsReady}

-- what is asked by these words
abbrev pub asked_go : TimedWords → Go
asked_go w = record { system = w.first.now; ticks = w.second.now; limit = w.limit; name = w.last.now }

-- what is accepted: the system, and what was linked of it
pub record IsAccepted (files : Option Files) (g : Go) (x : Accepted) : Type 0 where
  pub system : System
  pub accepts : Accepts files g system
  pub gaps : system.gaps ≡ x.ticks
  pub ranges : HasSystemRanges system.parts
  pub its_map : Map
  pub linked : IsLinked system.objects system.parts.tasks x.image its_map

-- why the files aren't accepted
abbrev pub IsRefused : Option Files → (List ℕ → ℕ) → (List ℕ → ℕ) → Go → Unaccepted → Type 0
IsRefused files reads reads_after g = IsDeclined (IsInTurn files g) (Refuses files g) reads reads_after

abbrev pub IsLinkedTo : Modules → ImageParts → Type 0
IsLinkedTo m image = (its : Map) × IsLinked m.objects m.system.tasks image its

-- all that is taken before the first write
pub record IsPrepared (g : Go) (x : Accepted) (p : Prepared) : Type 0 where
  pub spelled : IsImage p.bytes x.image
  pub image : string_bytes p.names.image ≡ image_name g
  pub report : string_bytes p.names.report ≡ report_name g
  pub ready : IsReady x.image x.ticks p.ready

-- the image can't be written; or it is, and is run
pub data IsCarriedOn (c : Call) (g : Go) (image : ImageParts) (gaps : List ℕ) : ℕ → Type 0 where
  unwritten : HasNoImage c g → IsCarriedOn c g image gaps 21
  carried : {bytes : List ℕ} {status : ℕ} (made : Outside) → IsImage bytes image → IsDone (Writes (image_name g) bytes) (before c) made → IsCarried c made g.limit (report_name g) image gaps status → IsCarriedOn c g image gaps status

-- a refusal is reported, unless memory is wanted
abbrev pub IsGivenUp : Go → Unaccepted → Outside → Outside → ℕ → Type 0
IsGivenUp g Memory a b status = (status ≡ 30) × IsKept a b
IsGivenUp g (Refused f) a b status = ((status ≡ 30) × IsKept a b) ⊎ Reports (report_name g) (refusal_text f) (status_of f) a b status
IsGivenUp g (Failed f) a b status = ((status ≡ 30) × IsKept a b) ⊎ Reports (report_name g) (refusal_text f) (status_of f) a b status
