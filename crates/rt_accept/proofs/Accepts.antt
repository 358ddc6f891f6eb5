-- Why a file isn't accepted.
use Rattle.std.proofs.Common.{◌≡◌, ℕ, List, Option, Some, refl, sym, subst}
use Rattle.rt_outside.specs.Files.{Files, WhereTold, IsTold, Lacks, HasTooLong}
use Rattle.rt_outside.specs.declared.store.StoreError.{StoreError}
use Rattle.rt_outside.specs.declared.store.StoreError.TheVariants as error
use Rattle.rt_report.specs.declared.fault.FaultLine.{FaultLine}
use Rattle.rt_report.specs.declared.fault.FaultLine.TheVariants as fault
use Rattle.rt_report.specs.declared.fault.FileKind.{FileKind}
use Rattle.rt_words.specs.Causes.{Rose}
use Rattle.rt_accept.specs.declared.reading.Unaccepted.{Unaccepted}
use Rattle.rt_accept.specs.declared.reading.Unaccepted.TheVariants.{Memory, Refused, Failed}
use Rattle.rt_accept.specs.Faulting.{IsToldBy}
use Rattle.rt_accept.specs.Reading.{IsNoFile, missing, too_long, IsUnaccepted, IsRefusedBy, HasFailedBy, IsUnread}

module _ (name : List ℕ) (reads now : List ℕ → ℕ) where
  -- a fault that refuses the file
  pub refused : (P : FaultLine → Type 0) (f : FaultLine) (u : Unaccepted) → P f → IsRefusedBy f u → IsUnaccepted P name reads now u
  refused P f Memory h k = tt
  refused P f (Refused g) h k = subst P (sym k) h
  refused P f (Failed g) h k = absurd k

  failed : (P : FaultLine → Type 0) (u : Unaccepted) → Rose (reads name) (now name) → HasFailedBy (fault.Unread name) u → IsUnaccepted P name reads now u
  failed P Memory h k = tt
  failed P (Refused g) h k = absurd k
  failed P (Failed g) h k = (k, h)

  pub wider : (P Q : FaultLine → Type 0) (u : Unaccepted) → ((f : FaultLine) → P f → Q f) → IsUnaccepted P name reads now u → IsUnaccepted Q name reads now u
  wider P Q Memory go h = tt
  wider P Q (Refused f) go h = go f h
  wider P Q (Failed f) go h = h

  -- an error of the store
  pub unread : (files : Option Files) (k : FileKind) (why : StoreError) (u : Unaccepted) → (why ≡ error.Missing → IsTold files (Lacks name)) → (why ≡ error.TooLong → WhereTold files (HasTooLong name)) → (why ≡ error.Failed → Rose (reads name) (now name)) → IsUnread k name why u → IsUnaccepted (IsNoFile files k name) name reads now u
  unread files k error.Missing u m t f h = refused (IsNoFile files k name) (fault.Unread name) u (missing (m refl)) h
  unread files k error.TooLong u m t f h = refused (IsNoFile files k name) (fault.TooLong k name) u (too_long (t refl)) h
  unread files k error.Failed u m t f h = failed (IsNoFile files k name) u (f refl) h
  unread files k error.Memory u m t f h = subst (IsUnaccepted (IsNoFile files k name) name reads now) (sym h) tt

  -- a fault of a module's text, by its line
  pub told : (P : FaultLine → Type 0) (line : Option FaultLine) (u : Unaccepted) → ((f : FaultLine) → line ≡ Some f → P f) → IsToldBy line u → IsUnaccepted P name reads now u
  told P line Memory h k = tt
  told P line (Refused f) h k = h f k
  told P line (Failed f) h k = absurd k
