-- How a command ends that reads files and puts the fault line where one isn't accepted.
use Rattle.std.specs.Prelude.{◌≡◌, ◌⊎◌, ℕ, List}
use Rattle.rt_report.specs.declared.fault.FaultLine.{FaultLine}
use Rattle.rt_report.specs.declared.fault.FaultLine.TheVariants as fault
use Rattle.rt_report.specs.Faults.{status_of, fault_text}
use Rattle.rt_words.specs.Causes.{Rose}
use Rattle.rt_outside.specs.Deeds.{Outside}
use Rattle.rt_accept.specs.Calls.{Call, NothingDone, IsKept, Says, Tells}
use Rattle.rt_accept.specs.declared.reading.Unaccepted.{Unaccepted}
use Rattle.rt_accept.specs.declared.reading.Unaccepted.TheVariants.{Memory, Refused, Failed}

-- a fault line is put, or memory was wanted for it
abbrev pub Complains : FaultLine → Outside → Outside → ℕ → Type 0
Complains f a b status = ((status ≡ 30) × IsKept a b) ⊎ Tells (fault_text f) (status_of f) a b status

-- what is put where a file isn't accepted
abbrev pub Declines : Unaccepted → Outside → Outside → ℕ → Type 0
Declines Memory a b status = (status ≡ 30) × IsKept a b
Declines (Refused f) a b status = Complains f a b status
Declines (Failed f) a b status = Complains f a b status

-- A file is refused by some fault, or the read of one failed in its turn, or all are accepted, which is carried out.
pub data FileEnds (IsInTurn : List ℕ → Type 0) (Refuses : FaultLine → Type 0) (IsCarried : ℕ → Type 0) (c : Call) : ℕ → Type 0 where
  -- memory was wanted
  no_memory : NothingDone c → FileEnds IsInTurn Refuses IsCarried c 30
  -- a file is refused: the fault line is put
  refused : {f : FaultLine} {status : ℕ} → Refuses f → Says (fault_text f) (status_of f) c status → FileEnds IsInTurn Refuses IsCarried c status
  -- or a read failed, by the count of its file
  unread : {name : List ℕ} {status : ℕ} → IsInTurn name → Rose (c.reads name) (c.reads_after name) → Says (fault_text (fault.Unread name)) 20 c status → FileEnds IsInTurn Refuses IsCarried c status
  -- all are accepted
  accepted : {status : ℕ} → IsCarried status → FileEnds IsInTurn Refuses IsCarried c status
