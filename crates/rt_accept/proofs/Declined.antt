-- Why files aren't accepted, seen from a wider call.
use Rattle.std.proofs.Common.{◌≡◌, ℕ, ◌≤◌, List, Option, Some, Result, Ok, Err, IfErr, arith}
use Rattle.rt_report.specs.declared.fault.FaultLine.{FaultLine}
use Rattle.rt_words.specs.Causes.{Rose}
use Rattle.rt_accept.specs.declared.reading.Unaccepted.{Unaccepted}
use Rattle.rt_accept.specs.declared.reading.Unaccepted.TheVariants.{Memory, Refused, Failed}
use Rattle.rt_accept.specs.Faulting.{IsToldBy}
use Rattle.rt_accept.specs.Reading.{IsUnaccepted, IsDeclined}

-- a count that rose, seen from before
rose_from : (a b c : ℕ) → a ≤ b → Rose b c → Rose a c
rose_from a b c p q = grind arith

pub err_on : {T E : Type 0} (P Q : E → Type 0) (r : Result T E) → ((u : E) → P u → Q u) → IfErr r P → IfErr r Q
err_on P Q (Ok x) go h = tt
err_on P Q (Err u) go h = go u h

module _ (Turn : List ℕ → Type 0) (Q : FaultLine → Type 0) (reads reads_after : List ℕ → ℕ) where
  -- one file that isn't accepted, in its turn
  pub one_file : (P : FaultLine → Type 0) (name : List ℕ) (u : Unaccepted) → Turn name → ((f : FaultLine) → P f → Q f) → IsUnaccepted P name reads reads_after u → IsDeclined Turn Q reads reads_after u
  one_file P name Memory t go h = tt
  one_file P name (Refused f) t go h = go f h
  one_file P name (Failed f) t go h = (name, h.0, t, h.1)

  -- files that aren't accepted, among others, behind other reads
  pub among : (Read : List ℕ → Type 0) (P : FaultLine → Type 0) (between : List ℕ → ℕ) (u : Unaccepted) → ((name : List ℕ) → reads name ≤ between name) → ((name : List ℕ) → Read name → Turn name) → ((f : FaultLine) → P f → Q f) → IsDeclined Read P between reads_after u → IsDeclined Turn Q reads reads_after u
  among Read P between Memory l t go h = tt
  among Read P between (Refused f) l t go h = go f h
  among Read P between (Failed f) l t go h = (h.0, h.1, t h.0 h.2, rose_from (reads h.0) (between h.0) (reads_after h.0) (l h.0) h.3)

  -- a fault by its line
  pub told : (line : Option FaultLine) (u : Unaccepted) → ((f : FaultLine) → line ≡ Some f → Q f) → IsToldBy line u → IsDeclined Turn Q reads reads_after u
  told line Memory go h = tt
  told line (Refused f) go h = go f h
  told line (Failed f) go h = absurd h
