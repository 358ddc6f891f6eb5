-- What follows from an answer.
use Rattle.std.proofs.Common.{◌≡◌, inl, inr, ℕ, ◌≤◌, Bool, true, false, if◌then◌else◌, List, [], ◌∷◌, Option, Some, None, refl, sym, ap, subst, arith}
use Rattle.std.specs.Prelude.{codes}
use Rattle.rt_outside.specs.Deeds.{Deed, Writes, Puts, Outside, IsLater, HasFailed, Performed}
use Rattle.rt_outside.proofs.Changes.{later, two_later}
use Rattle.rt_outside.proofs.Stretches.{stopped}
use Rattle.rt_report.specs.declared.fault.FaultLine.{FaultLine}
use Rattle.rt_report.specs.declared.fault.FaultLine.TheVariants as fault
use Rattle.rt_report.specs.Faults.{status_of, fault_text}
use Rattle.rt_report.specs.Reports.{run_status, any_failed}
use Rattle.rt_rules.specs.declared.task.TaskRow.{TaskRow}
use Rattle.rt_run.specs.declared.machine.End.{End}
use Rattle.rt_run.specs.declared.machine.End.TheVariants.{Ended, Limit, Stalled, Fault, ReadFault, WriteFault}
use Rattle.rt_words.specs.Causes.{Rose}
use Rattle.rt_accept.specs.Calls.{Call, before, after, NothingDone, Does, DoesAll, Says, Answers, all_done, one_failed}
use Rattle.rt_top.specs.Compiling.{Named, IsCompiled, CompileEnds}
use Rattle.rt_accept.specs.FileEnds.{FileEnds}
use Rattle.rt_accept.specs.Reading.{missing, too_long, RefusesImage, RefusesModule, RefusesObject, RefusesSystem, RefusesTicks}
use Rattle.rt_top.specs.Running.{Asked, Refuses, RunEnds, no_memory, refused, unread, carried}
use Rattle.rt_top.specs.Showing.{IsShown, ShowEnds}
use Rattle.rt_top.specs.Linking.{LinkNames, IsLinkedNow, LinkEnds}
use Rattle.rt_top.specs.Stacking.{IsTold, StacksEnd}
use Rattle.rt_object.specs.declared.object.ObjectParts.{ObjectParts}
use Rattle.rt_system.specs.declared.parts.Entry.{Entry}
use Rattle.rt_system.specs.declared.parts.Entry.TheVariants as entry
use Rattle.rt_system.specs.declared.parts.SystemParts.{SystemParts}
use Rattle.rt_accept.specs.Systems.{library_name, IsInTurn, RefusesEntry, RefusesModules}
use Rattle.rt_accept.specs.Verdicts.{RefusesVerdict, RefusesSystems}
use Rattle.rt_accept.proofs.Statuses.{line_status, verdict_status}
use Rattle.rt_generated.specs.Texts.{writes_of}
use Rattle.rt_headline.specs.Go.{Go, image_name}
use Rattle.rt_headline.specs.Outcome as out
use Rattle.rt_headline.specs.Carrying.{IsCarriedOut, GoEnds}
use Rattle.rt_headline.specs.Generating.{asked_of, between, GenEnds}
use Rattle.rt_top.specs.Top.{HasReadFault, HasWriteFault}
use Rattle.rt_top.proofs.Ends.{rose_on}

pub record Caused (c : Call) (status : ℕ) : Type 0 where
  pub ten : status ≡ 10 → ⊥
  pub twenty : status ≡ 20 → HasReadFault c
  pub twenty_one : status ≡ 21 → HasWriteFault c
  pub thirty : status ≡ 30 → NothingDone c

no : {X : Type 0} (n m : ℕ) → (n ≡ m → ⊥) → n ≡ m → X
no n m h e = absurd (h e)

module _ (c : Call) (n : ℕ) where
  -- an answer that tells of no fault of this kind
  abbrev IsPlain : ℕ → Type 0
  IsPlain m = (m ≡ 10 → ⊥) × (m ≡ 20 → ⊥) × (m ≡ 21 → ⊥) × (m ≡ 30 → ⊥)

  plain : IsPlain n → Caused c n
  plain h = record { ten = h.0; twenty = no n 20 h.1; twenty_one = no n 21 h.2; thirty = no n 30 h.3 }

  small : n ≤ 4 → Caused c n
  small h = plain (λ e. omega (arith, h, e), λ e. omega (arith, h, e), λ e. omega (arith, h, e), λ e. omega (arith, h, e))

  middling : 11 ≤ n → n ≤ 15 → Caused c n
  middling l h = plain (λ e. omega (arith, l, e), λ e. omega (arith, h, e), λ e. omega (arith, h, e), λ e. omega (arith, h, e))

  pub by_read : n ≡ 20 → HasReadFault c → Caused c n
  by_read e h = record { ten = λ k. omega (arith, e, k); twenty = λ k. h; twenty_one = λ k. absurd (omega (arith, e, k)); thirty = λ k. absurd (omega (arith, e, k)) }

  pub by_write : n ≡ 21 → HasWriteFault c → Caused c n
  by_write e h = record { ten = λ k. omega (arith, e, k); twenty = λ k. absurd (omega (arith, e, k)); twenty_one = λ k. h; thirty = λ k. absurd (omega (arith, e, k)) }

  pub by_memory : n ≡ 30 → NothingDone c → Caused c n
  by_memory e h = record { ten = λ k. omega (arith, e, k); twenty = λ k. absurd (omega (arith, e, k)); twenty_one = λ k. absurd (omega (arith, e, k)); thirty = λ k. h }

rose_from : (a b d : ℕ) → a ≤ b → Rose b d → Rose a d
rose_from a b d h k = grind arith

-- a deed that failed
one_failed_then : (c : Call) (d : Deed) (m : Outside) → IsLater (before c) m → HasFailed d m (after c) → HasWriteFault c
one_failed_then c (Writes name text) m l h = HasWriteFault.write name (rose_from (c.writes name) (m.writes name) (c.writes_after name) (l.writes name) h.0)
one_failed_then c (Puts text) m l h = HasWriteFault.output (rose_from c.faults m.faults c.faults_after l.faults h.0)

-- of deeds that weren't all done one failed
deeds_failed : (c : Call) (ds : List Deed) (m : Outside) → IsLater (before c) m → Performed ds m (after c) false → HasWriteFault c
deeds_failed c ds m l h =
    let s = stopped ds m (after c) h in
    one_failed_then c s.deed s.middle (two_later (before c) m s.middle l (later s.before m s.middle true s.done)) s.failed

-- deeds of a part of a call, whose failures are the call's
module _ (c part : Call) (up : HasWriteFault part → HasWriteFault c) where
  done_within : (ds : List Deed) (n status : ℕ) (m : Outside) → IsLater (before part) m → DoesAll ds n m (after part) status → Caused c n → Caused c status
  done_within ds n status m l h k = by h.all status h.performed h.answer
    where
      by : (all : Bool) (s : ℕ) → Performed ds m (after part) all → Answers n all s → Caused c s
      by true s p all_done = k
      by false s p one_failed = by_write c 21 refl (up (deeds_failed part ds m l p))

pub done_or_failed : (c : Call) (ds : List Deed) (n status : ℕ) (m : Outside) → IsLater (before c) m → DoesAll ds n m (after c) status → Caused c n → Caused c status
done_or_failed c ds n status m l h k = done_within c c (λ w. w) ds n status m l h k

same : (a : Outside) → IsLater a a
same a = record { writes = λ n. omega arith; faults = omega arith }

-- ---- refusals

image_refused : (c : Call) (name : List ℕ) (f : FaultLine) → RefusesImage c.files name f → Caused c (status_of f)
image_refused c name f (RefusesImage.no_file (missing h)) = by_read c 20 refl (HasReadFault.missing name h)
image_refused c name f (RefusesImage.no_file (too_long h)) = middling c 15 (omega arith) (omega arith)
image_refused c name f (RefusesImage.no_image h k) = middling c 15 (omega arith) (omega arith)

ticks_refused : (c : Call) (name : List ℕ) (f : FaultLine) → RefusesTicks c.files name f → Caused c (status_of f)
ticks_refused c name f (RefusesTicks.no_file (missing h)) = by_read c 20 refl (HasReadFault.missing name h)
ticks_refused c name f (RefusesTicks.no_file (too_long h)) = middling c 13 (omega arith) (omega arith)
ticks_refused c name f (RefusesTicks.bad_line h k) = middling c 13 (omega arith) (omega arith)

is_refused : (c : Call) (r : Asked) (f : FaultLine) → Refuses c.files r f → Caused c (status_of f)
is_refused c r f (inl h) = image_refused c r.image f h
is_refused c r f (inr (i, has, h)) = ticks_refused c r.ticks f h

-- ---- runs

run_ended : (c : Call) (end : End) (ts : List TaskRow) → (end ≡ ReadFault → HasReadFault c) → (end ≡ WriteFault → HasWriteFault c) → Caused c (run_status end ts)
run_ended c Ended ts r w = by (any_failed ts)
  where
    by : (b : Bool) → Caused c (if b then 1 else 0)
    by true = small c 1 (omega arith)
    by false = small c 0 (omega arith)
run_ended c Limit ts r w = small c 2 (omega arith)
run_ended c Stalled ts r w = small c 3 (omega arith)
run_ended c (Fault i k at) ts r w = small c 4 (omega arith)
run_ended c ReadFault ts r w = by_read c 20 refl (r refl)
run_ended c WriteFault ts r w = by_write c 21 refl (w refl)

later_after : (c : Call) (d : Deed) (n status : ℕ) (m : Outside) → Does d n m (after c) status → IsLater m (after c)
later_after c d n status m h = later (d ∷ []) m (after c) h.all h.performed

pub run_caused : (c : Call) (r : Asked) (status : ℕ) → RunEnds c r status → Caused c status
run_caused c r status (no_memory h) = by_memory c 30 refl h
run_caused c r status (refused {f = f} h k) = done_or_failed c _ (status_of f) status (before c) (same (before c)) k.reported (is_refused c r f h)
run_caused c r status (unread {name = name} turn rose k) = done_or_failed c _ 20 status (before c) (same (before c)) k.reported (by_read c 20 refl (HasReadFault.read name rose))
run_caused c r status (carried has ticks k) =
    done_or_failed c _ (run_status k.end ((k.last).rules).tasks) status k.middle k.later k.reported
    (run_ended c k.end ((k.last).rules).tasks (λ e. HasReadFault.input (k.read_failed e)) (λ e. HasWriteFault.output (rose_on c.faults (k.middle).faults c.faults_after (k.write_failed e) (later_after c _ _ status k.middle k.reported).faults)))

-- ---- objects

object_refused : (c : Call) (name : List ℕ) (f : FaultLine) → RefusesObject c.files name f → Caused c (status_of f)
object_refused c name f (RefusesObject.no_file (missing h)) = by_read c 20 refl (HasReadFault.missing name h)
object_refused c name f (RefusesObject.no_file (too_long h)) = middling c 12 (omega arith) (omega arith)
object_refused c name f (RefusesObject.no_object h k) = middling c 12 (omega arith) (omega arith)
object_refused c name f (RefusesObject.other_version h k) = middling c 12 (omega arith) (omega arith)

said : (c : Call) (text : List ℕ) (n status : ℕ) → Says text n c status → Caused c n → Caused c status
said c text n status h k = done_or_failed c (Puts text ∷ []) n status (before c) (same (before c)) h.tells k

pub file_caused : (c : Call) (IsInTurn : List ℕ → Type 0) (Refuses : FaultLine → Type 0) (IsCarried : ℕ → Type 0) → ((f : FaultLine) → Refuses f → Caused c (status_of f)) → ((n : ℕ) → IsCarried n → Caused c n) → (status : ℕ) → FileEnds IsInTurn Refuses IsCarried c status → Caused c status
file_caused c IsInTurn Refuses IsCarried by_fault by_carried status (FileEnds.no_memory h) = by_memory c 30 refl h
file_caused c IsInTurn Refuses IsCarried by_fault by_carried status (FileEnds.refused {f = f} h k) = said c (fault_text f) (status_of f) status k (by_fault f h)
file_caused c IsInTurn Refuses IsCarried by_fault by_carried status (FileEnds.unread {name = name} turn rose k) = said c (fault_text (fault.Unread name)) 20 status k (by_read c 20 refl (HasReadFault.read name rose))
file_caused c IsInTurn Refuses IsCarried by_fault by_carried status (FileEnds.accepted h) = by_carried status h

pub show_caused : (c : Call) (name : List ℕ) (status : ℕ) → ShowEnds c name status → Caused c status
show_caused c name status h = file_caused c (λ n. n ≡ name) (RefusesObject c.files name) (IsShown c name) (object_refused c name) (λ n k. said c k.text 0 n k.put (small c 0 (omega arith))) status h

-- ---- modules

module_refused : (c : Call) (name : List ℕ) (f : FaultLine) → RefusesModule c.files name f → Caused c (status_of f)
module_refused c name f (RefusesModule.no_file (missing h)) = by_read c 20 refl (HasReadFault.missing name h)
module_refused c name f (RefusesModule.no_file (too_long h)) = middling c 11 (omega arith) (omega arith)
module_refused c name f (RefusesModule.no_module why h k apart e) = subst (Caused c) (sym (line_status name why f e)) (middling c 11 (omega arith) (omega arith))

pub compile_caused : (c : Call) (n : Named) (status : ℕ) → CompileEnds c n status → Caused c status
compile_caused c n status h = file_caused c (λ m. m ≡ n.source) (RefusesModule c.files n.source) (IsCompiled c n) (module_refused c n.source) (λ m k. done_or_failed c (Writes n.object k.bytes ∷ []) 0 m (before c) (same (before c)) k.written (small c 0 (omega arith))) status h

-- ---- words that no command has

-- what follows where the answer is 10 or 21
pub record NotTen (c : Call) (status : ℕ) : Type 0 where
  pub twenty : status ≡ 20 → HasReadFault c
  pub twenty_one : status ≡ 21 → HasWriteFault c
  pub thirty : status ≡ 30 → NothingDone c

pub ten_only : (c : Call) (status : ℕ) → Does (Puts (codes "FAULT 10\n")) 10 (before c) (after c) status → NotTen c status
ten_only c status h = by h.all status h.performed h.answer
  where
    by : (all : Bool) (s : ℕ) → Performed (Puts (codes "FAULT 10\n") ∷ []) (before c) (after c) all → Answers 10 all s → NotTen c s
    by true s p all_done = record { twenty = λ e. absurd (omega (arith, e)); twenty_one = λ e. absurd (omega (arith, e)); thirty = λ e. absurd (omega (arith, e)) }
    by false s p one_failed = record { twenty = λ e. absurd (omega (arith, e)); twenty_one = λ e. deeds_failed c (Puts (codes "FAULT 10\n") ∷ []) (before c) (same (before c)) p; thirty = λ e. absurd (omega (arith, e)) }

-- ---- systems

system_refused : (c : Call) (objects : Bool) (name : List ℕ) (f : FaultLine) → RefusesSystem c.files objects name f → Caused c (status_of f)
system_refused c objects name f (RefusesSystem.no_file (missing h)) = by_read c 20 refl (HasReadFault.missing name h)
system_refused c objects name f (RefusesSystem.no_file (too_long h)) = middling c 13 (omega arith) (omega arith)
system_refused c objects name f (RefusesSystem.bad_line h k) = middling c 13 (omega arith) (omega arith)
system_refused c objects name f (RefusesSystem.object_line h k) = middling c 13 (omega arith) (omega arith)

entry_refused : (c : Call) (e : Entry) (f : FaultLine) → RefusesEntry c.files e f → Caused c (status_of f)
entry_refused c (entry.Module file) f h = module_refused c file f h
entry_refused c (entry.Object file) f h = object_refused c file f h
entry_refused c entry.Library f h = subst (Caused c) (sym (line_status library_name h.why f h.line)) (middling c 11 (omega arith) (omega arith))

modules_refused : (c : Call) (name : List ℕ) (f : FaultLine) → RefusesModules c.files name f → Caused c (status_of f)
modules_refused c name f (RefusesModules.in_text h) = system_refused c true name f h
modules_refused c name f (RefusesModules.in_line has h) = entry_refused c h.entry f h.refused

verdict_refused : (c : Call) (s : SystemParts) (objects : List ObjectParts) (f : FaultLine) → RefusesVerdict s objects f → Caused c (status_of f)
verdict_refused c s objects f h = subst (Caused c) (sym (verdict_status objects s.entries h.why f h.line)) (middling c 14 (omega arith) (omega arith))

systems_refused : (c : Call) (name : List ℕ) (f : FaultLine) → RefusesSystems c.files name f → Caused c (status_of f)
systems_refused c name f (RefusesSystems.in_modules h) = modules_refused c name f h
systems_refused c name f (RefusesSystems.in_verdict {s = s} {objects = objects} has h) = verdict_refused c s objects f h

pub link_caused : (c : Call) (n : LinkNames) (status : ℕ) → LinkEnds c n status → Caused c status
link_caused c n status h = file_caused c (IsInTurn c.files n.system) (RefusesSystems c.files n.system) (IsLinkedNow c n) (systems_refused c n.system) (λ m k. done_or_failed c (Writes n.image k.made.image ∷ Writes n.map k.made.map ∷ []) 0 m (before c) (same (before c)) k.written (small c 0 (omega arith))) status h

pub stacks_caused : (c : Call) (name : List ℕ) (status : ℕ) → StacksEnd c name status → Caused c status
stacks_caused c name status h = file_caused c (IsInTurn c.files name) (RefusesSystems c.files name) (IsTold c name) (systems_refused c name) (λ m k. said c k.text 0 m k.put (small c 0 (omega arith))) status h

-- ---- go

go_refused : (c : Call) (g : Go) (f : FaultLine) → out.Refuses c.files g f → Caused c (status_of f)
go_refused c g f (out.Refuses.in_text h) = system_refused c false g.system f h
go_refused c g f (out.Refuses.in_ticks has h) = ticks_refused c g.ticks f h
go_refused c g f (out.Refuses.in_module has ticks h) = entry_refused c h.entry f h.refused
go_refused c g f (out.Refuses.in_verdict {s = s} {objects = objects} has ticks have h) = verdict_refused c s objects f h

-- what was carried out in a part of a call
out_caused : (c part : Call) → (Rose part.input_faults part.input_faults_after → HasReadFault c) → (HasWriteFault part → HasWriteFault c) → (g : Go) (a : out.System) (status : ℕ) → IsCarriedOut part g a status → Caused c status
out_caused c part read write g a status h =
    let k = h.carried in
    let image_later : IsLater (before part) h.made = h.written.3 in
    let told_later : IsLater k.middle (after part) = later_after part _ _ status k.middle k.reported in
    done_within c part write _ (run_status k.end ((k.last).rules).tasks) status k.middle (two_later (before part) h.made k.middle image_later k.later) k.reported
    (run_ended c k.end ((k.last).rules).tasks (λ e. read (k.read_failed e))
    (λ e. write (HasWriteFault.output (rose_from part.faults h.made.faults part.faults_after image_later.faults (rose_on h.made.faults (k.middle).faults part.faults_after (k.write_failed e) told_later.faults)))))

pub go_caused : (c : Call) (g : Go) (status : ℕ) → GoEnds c.files c g status → Caused c status
go_caused c g _ (GoEnds.no_memory h) = by_memory c 30 refl h
go_caused c g status (GoEnds.refused {f = f} r h) = done_or_failed c _ (status_of f) status (before c) (same (before c)) h.reported (go_refused c g f r)
go_caused c g status (GoEnds.unread {name = name} turn rose h) = done_or_failed c _ 20 status (before c) (same (before c)) h.reported (by_read c 20 refl (HasReadFault.read name rose))
go_caused c g _ (GoEnds.unwritten a h) = by_write c 21 refl (HasWriteFault.write (image_name g) h.failed.0)
go_caused c g status (GoEnds.carried {a = a} k h) = out_caused c c HasReadFault.input (λ w. w) g a status h

-- ---- gen

-- a write that failed between two moments of a call
within : (c : Call) (a b : Outside) → IsLater (before c) a → IsLater b (after c) → HasWriteFault (between c a b) → HasWriteFault c
within c a b l k (HasWriteFault.write name h) = HasWriteFault.write name (rose_from (c.writes name) (a.writes name) (c.writes_after name) (l.writes name) (rose_on (a.writes name) (b.writes name) (c.writes_after name) h (k.writes name)))
within c a b l k (HasWriteFault.output h) = HasWriteFault.output (rose_from c.faults a.faults c.faults_after l.faults (rose_on a.faults b.faults c.faults_after h k.faults))

out_later : (c : Call) (g : Go) (a : out.System) (status : ℕ) → IsCarriedOut c g a status → IsLater (before c) (after c)
out_later c g a status h =
    let k = h.carried in
    two_later (before c) k.middle (after c) (two_later (before c) h.made k.middle h.written.3 k.later) (later_after c _ _ status k.middle k.reported)

pub gen_caused : (c : Call) (n : ℕ) (name : List ℕ) (status : ℕ) → GenEnds IsCarriedOut c n name status → Caused c status
gen_caused c n name _ (GenEnds.no_memory h) = by_memory c 30 refl h
gen_caused c n name _ (GenEnds.unwritten h k) = by_write c 21 refl (deeds_failed c (writes_of n name) (before c) (same (before c)) h)
gen_caused c n name _ (GenEnds.no_image made at h k) =
    by_write c 21 refl (within c made (after c) (later (writes_of n name) (before c) made true h) (same (after c)) (HasWriteFault.write (image_name (asked_of name)) k.failed.0))
gen_caused c n name status (GenEnds.failed {a = a} made at h k l) =
    out_caused c (between c made (after c)) HasReadFault.input (within c made (after c) (later (writes_of n name) (before c) made true h) (same (after c))) (asked_of name) a status k
gen_caused c n name status (GenEnds.told {a = a} {done = d} made ran at h k l t) =
    let first = later (writes_of n name) (before c) made true h in
    let run_later : IsLater made ran = out_later (between c made ran) (asked_of name) a d k in
    done_or_failed c _ d status ran (two_later (before c) made ran first run_later) t
    (out_caused c (between c made ran) HasReadFault.input (within c made ran first (later _ ran (after c) t.all t.performed)) (asked_of name) a d k)
