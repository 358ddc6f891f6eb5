-- The steps of `gen`.
use Rattle.std.specs.Prelude.{◌≡◌, ℕ, ◌<◌, ◌≤◌, Option}
use Rattle.rt_outside.specs.Deeds.{Outside}
use Rattle.rt_outside.specs.Files.{Files}
use Rattle.rt_generated.specs.Texts.{summary_front, summary}
use Rattle.rt_accept.specs.Calls.{Call, after, Tells}
use Rattle.rt_headline.specs.Go.{Go}
use Rattle.rt_headline.specs.Outcome.{System, Accepts}
use Rattle.rt_headline.specs.Carrying.{IsCarriedOut, HasNoImage}
use Rattle.rt_top.specs.declared.carrying.Prepared.{Prepared}
use Rattle.rt_top.specs.declared.generating.Made.{Made}
use Rattle.rt_top.specs.declared.running.Accepted.{Accepted}
use Rattle.rt_top.specs.Going.{IsAccepted, IsPrepared}

-- an accepted system stands ready to be carried out
pub record IsReadyFor (files : Option Files) (g : Go) (p : Prepared) : Type 0 where
  pub accepted : Accepted
  pub is : IsAccepted files g accepted
  pub prepared : IsPrepared g accepted p

-- and so does the line that is put behind its run
pub record IsMade (files : Option Files) (g : Go) (n : ℕ) (m : Made) : Type 0 where
  pub ready : IsReadyFor files g m.prepared
  pub front : m.line.items ≡ summary_front n
  pub room : 41 ≤ m.line.spare

-- a call up to a moment
abbrev pub up_to : Call → Outside → Call
up_to c m = record c { files_after = m.files; writes_after = m.writes; written_after = m.written; faults_after = m.faults }

-- it was carried out, and the line put behind what answers less than 20
pub data IsAllOut (files : Option Files) (g : Go) (n : ℕ) (c : Call) : ℕ → Type 0 where
  no_image : {a : System} → Accepts files g a → HasNoImage c g → IsAllOut files g n c 21
  failed : {a : System} {status : ℕ} → Accepts files g a → IsCarriedOut c g a status → 20 ≤ status → IsAllOut files g n c status
  told : {a : System} {done status : ℕ} (ran : Outside) → Accepts files g a → IsCarriedOut (up_to c ran) g a done → done < 20 → Tells (summary n done) done ran (after c) status → IsAllOut files g n c status
