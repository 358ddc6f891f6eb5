-- What a refusal of `go` tells.
use Rattle.std.proofs.Common.{◌≡◌, ◌⊎◌, inl, inr, ℕ, true, false, List, [], ◌∷◌, ◌++◌, Option, refl, subst}
use Rattle.std.specs.List.{AllByRecursion}
use Rattle.rt_outside.specs.Files.{Files}
use Rattle.rt_system.specs.declared.parts.Entry.{Entry}
use Rattle.rt_system.specs.declared.parts.Entry.TheVariants as entry
use Rattle.rt_system.specs.declared.parts.SystemParts.{SystemParts}
use Rattle.rt_system.specs.Systems.{IsTaken}
use Rattle.rt_report.specs.declared.fault.FaultLine.{FaultLine}
use Rattle.rt_report.specs.declared.fault.FaultLine.TheVariants as fault
use Rattle.rt_report.specs.declared.fault.FileKind.{FileKind}
use Rattle.rt_report.specs.declared.fault.FileKind.TheVariants as kind
use Rattle.rt_report.specs.Faults.{status_of, file_status}
use Rattle.rt_accept.specs.Reading.{HasSystem, RefusesSystem, IsNoFile, missing, too_long, RefusesModule, RefusesTicks}
use Rattle.rt_accept.specs.Systems.{library_name, RefusesEntry, RefusesEntries}
use Rattle.rt_accept.proofs.Statuses.{line_status, verdict_status}
use Rattle.rt_headline.specs.Go.{Go}
use Rattle.rt_headline.specs.Outcome.{Refuses}

-- a file that isn't there; or the status of a module, of lines, or of a system
abbrev pub IsTold : FaultLine → Type 0
IsTold f = ((name : List ℕ) × (f ≡ fault.Unread name)) ⊎ ((status_of f ≡ 11) ⊎ ((status_of f ≡ 13) ⊎ (status_of f ≡ 14)))

no_file : (files : Option Files) (k : FileKind) (name : List ℕ) (f : FaultLine) → (file_status k ≡ 11) ⊎ (file_status k ≡ 13) → IsNoFile files k name f → IsTold f
no_file files k name f h (missing e) = inl (name, refl)
no_file files k name f (inl h) (too_long e) = inr (inl h)
no_file files k name f (inr h) (too_long e) = inr (inr (inl h))

-- ---- lines

in_text : (files : Option Files) (name : List ℕ) (f : FaultLine) → RefusesSystem files false name f → IsTold f
in_text files name f (RefusesSystem.no_file h) = no_file files kind.Lines name f (inr refl) h
in_text files name f (RefusesSystem.bad_line h k) = inr (inr (inl refl))
in_text files name f (RefusesSystem.object_line h k) = inr (inr (inl refl))

in_ticks : (files : Option Files) (name : List ℕ) (f : FaultLine) → RefusesTicks files name f → IsTold f
in_ticks files name f (RefusesTicks.no_file h) = no_file files kind.Lines name f (inr refl) h
in_ticks files name f (RefusesTicks.bad_line h k) = inr (inr (inl refl))

-- ---- modules

among : (P : Entry → Type 0) (before : List Entry) (e : Entry) (after : List Entry) → AllByRecursion P (before ++ e ∷ after) → P e
among P [] e after h = h.0
among P (x ∷ xs) e after h = among P xs e after h.1

in_entry : (files : Option Files) (e : Entry) (f : FaultLine) → IsTaken false e → RefusesEntry files e f → IsTold f
in_entry files (entry.Module file) f t (RefusesModule.no_file h) = no_file files kind.Module file f (inl refl) h
in_entry files (entry.Module file) f t (RefusesModule.no_module why h k apart e) = inr (inl (line_status file why f e))
in_entry files (entry.Object file) f t h = let no : false ≡ true = t in absurd cc
in_entry files entry.Library f t h = inr (inl (line_status library_name h.why f h.line))

in_entries : (files : Option Files) (name : List ℕ) (s : SystemParts) (f : FaultLine) → HasSystem files false name s → RefusesEntries files s.entries f → IsTold f
in_entries files name s f has h =
    let t = h.turn in
    in_entry files h.entry f (among (IsTaken false) t.before h.entry t.after (subst (λ (es : List Entry). AllByRecursion (IsTaken false) es) t.lines has.is_system.parts.taken)) h.refused

-- ---- all of them

pub told : (files : Option Files) (g : Go) (f : FaultLine) → Refuses files g f → IsTold f
told files g f (Refuses.in_text h) = in_text files g.system f h
told files g f (Refuses.in_ticks has h) = in_ticks files g.ticks f h
told files g f (Refuses.in_module {s = s} has ticks h) = in_entries files g.system s f has h
told files g f (Refuses.in_verdict {s = s} {objects = objects} has ticks have h) = inr (inr (inr (verdict_status objects s.entries h.why f h.line)))
