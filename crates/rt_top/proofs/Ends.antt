-- How commands end, from the moments of their steps.
use Rattle.std.proofs.Common.{◌≡◌, ◌⊎◌, inl, inr, ℕ, ◌≤◌, List, [], ◌∷◌, Option, refl, sym, subst, ◌∙◌, arith}
use Rattle.rt_outside.specs.Deeds.{Deed, Puts, Outside}
use Rattle.rt_outside.proofs.Changes.{earlier}
use Rattle.rt_image.specs.declared.image.ImageParts.{ImageParts}
use Rattle.rt_outside.specs.Files.{Files}
use Rattle.rt_report.specs.declared.fault.FaultLine.{FaultLine}
use Rattle.rt_report.specs.declared.fault.FaultLine.TheVariants as fault
use Rattle.rt_words.specs.Causes.{Rose}
use Rattle.rt_accept.specs.declared.reading.Unaccepted.{Unaccepted}
use Rattle.rt_accept.specs.declared.reading.Unaccepted.TheVariants.{Memory, Refused, Failed}
use Rattle.rt_report.specs.Faults.{status_of, fault_text}
use Rattle.rt_run.specs.Inputs.{Feed}
use Rattle.rt_accept.specs.Calls.{Call, outside, before, Does, DoesAll, Says, Tells}
use Rattle.rt_accept.specs.FileEnds.{Declines, FileEnds}
use Rattle.rt_accept.specs.Reading.{IsUnaccepted, IsDeclined}
use Rattle.rt_headline.specs.Carrying.{IsCarried}
use Rattle.rt_top.specs.Running.{Asked, IsInTurn, IsRefused, IsRefusal, RunEnds, refused, unread}
use Rattle.rt_top.proofs.Called.{call_of}
use Rattle.rt_top.proofs.Leaves.{keeps_by}

-- counts that rose stay so
pub rose_on : (a b c : ℕ) → Rose a b → b ≤ c → Rose a c
rose_on a b c h k = grind arith

-- the same call, seen from before the files were read
abbrev pub from_before : Call → Option Files → (List ℕ → ℕ) → (List ℕ → ℕ) → Call
from_before d files reads writes = record d { files = files; reads = reads; writes = writes }

pub carried_from : (d : Call) (files : Option Files) (reads writes : List ℕ → ℕ) (limit : ℕ) (report : List ℕ) (image : ImageParts) (gaps : List ℕ) (status : ℕ) → d.files ≡ files → ((n : List ℕ) → writes n ≤ d.writes n) → IsCarried d (before d) limit report image gaps status → IsCarried (from_before d files reads writes) (before (from_before d files reads writes)) limit report image gaps status
carried_from d files reads writes limit report image gaps status e w k = record {
  first = k.first;
  last = k.last;
  end = k.end;
  middle = k.middle;
  begins = k.begins;
  runs = k.runs;
  files = k.files ∙ e;
  later = record { writes = λ n. omega (arith, w n, (k.later).writes n); faults = (k.later).faults };
  read_failed = k.read_failed;
  write_failed = k.write_failed;
  reported = k.reported;
}

-- where the store told no other files and no count fell since
pub all_from : (d : Deed) (ds : List Deed) (n : ℕ) (files files2 : Option Files) (writes writes2 : List ℕ → ℕ) (written : Option (List ℕ)) (faults : ℕ) (b : Outside) (status : ℕ) → files2 ≡ files → ((m : List ℕ) → writes m ≤ writes2 m) → DoesAll (d ∷ ds) n (outside files2 writes2 written faults) b status → DoesAll (d ∷ ds) n (outside files writes written faults) b status
all_from d ds n files files2 writes writes2 written faults b status e w h = record {
  all = h.all;
  performed = earlier d ds (outside files writes written faults) (outside files2 writes2 written faults) b h.all
      (record { files = sym e; written = refl; later = record { writes = w; faults = omega arith } }) h.performed;
  answer = h.answer;
}

pub done_from : (d : Deed) (n : ℕ) (files files2 : Option Files) (writes writes2 : List ℕ → ℕ) (written : Option (List ℕ)) (faults : ℕ) (b : Outside) (status : ℕ) → files2 ≡ files → ((m : List ℕ) → writes m ≤ writes2 m) → Does d n (outside files2 writes2 written faults) b status → Does d n (outside files writes written faults) b status
done_from d n = all_from d [] n

-- an ending with the answer 30 where memory was wanted, or another
left_by : (Ends : ℕ → Type 0) (status : ℕ) (Wanted Told : Type 0) → (Wanted → Ends 30) → (Told → Ends status) → ((status ≡ 30) × Wanted) ⊎ Told → Ends status
left_by Ends status Wanted Told p q (inl h) = subst Ends (sym h.0) (p h.1)
left_by Ends status Wanted Told p q (inr h) = q h

pub run_left : (d : Call) (r : Asked) (status : ℕ) (Wanted Told : Type 0) → (Wanted → RunEnds d r 30) → (Told → RunEnds d r status) → ((status ≡ 30) × Wanted) ⊎ Told → RunEnds d r status
run_left d r status Wanted Told p q h = left_by (RunEnds d r) status Wanted Told p q h

-- ---- run

-- why files aren't accepted: a fault that refuses them, or one that tells of a failed read, whose count has risen since
module _ (d : Call) (now : List ℕ → ℕ) (r : Asked) (f : FaultLine) (status : ℕ) where
  pub refused_by : (u : Unaccepted) → u ≡ Refused f → IsRefused d.files d.reads now r u → IsRefusal d r f status → RunEnds d r status
  refused_by u e h k = refused {f = f} {status = status} (subst (IsRefused d.files d.reads now r) e h) k

  pub unread_by : (u : Unaccepted) → ((n : List ℕ) → now n ≤ d.reads_after n) → u ≡ Failed f → IsRefused d.files d.reads now r u → IsRefusal d r f status → RunEnds d r status
  unread_by u later e h k = by (subst (IsRefused d.files d.reads now r) e h)
    where
      by : ((name : List ℕ) × (f ≡ fault.Unread name) × IsInTurn d.files r name × Rose (d.reads name) (now name)) → RunEnds d r status
      by (name, is, turn, rose) = unread {name = name} {status = status} turn (rose_on (d.reads name) (now name) (d.reads_after name) rose (later name)) (subst (λ g. IsRefusal d r g status) is k)

-- ---- commands that read one file

-- the same of one file
pub one_file : (name : List ℕ) (Refuses : FaultLine → Type 0) (reads reads2 : List ℕ → ℕ) (u : Unaccepted) → IsUnaccepted Refuses name reads reads2 u → IsDeclined (λ n. n ≡ name) Refuses reads reads2 u
one_file name Refuses reads reads2 Memory h = tt
one_file name Refuses reads reads2 (Refused f) h = h
one_file name Refuses reads reads2 (Failed f) h = (name, h.0, refl, h.1)

-- a file isn't accepted, once files were read
module _ (IsInTurn : List ℕ → Type 0) (Refuses : FaultLine → Type 0) (IsCarried : ℕ → Type 0) (files files2 : Option Files) (reads reads2 writes writes2 : List ℕ → ℕ) (written written2 : Option (List ℕ)) (faults faults2 : ℕ) (left : Feed) (input_faults status : ℕ) where
  abbrev the : Call
  the = call_of files files2 reads reads2 writes writes2 written written2 faults faults2 left left input_faults input_faults

  abbrev Ends : ℕ → Type 0
  Ends = FileEnds IsInTurn Refuses IsCarried the

  wanted : files2 ≡ files → written2 ≡ written → status ≡ 30 → Ends status
  wanted e w s = subst Ends (sym s) (FileEnds.no_memory (record { files = e; written = keeps_by written written2 w; input = record { left = refl; faults = refl } }))

  said : (f : FaultLine) → files2 ≡ files → ((m : List ℕ) → writes m ≤ writes2 m) → Tells (fault_text f) (status_of f) (outside files2 writes2 written faults) (outside files2 writes2 written2 faults2) status → Says (fault_text f) (status_of f) the status
  said f e later t = record {
    tells = done_from (Puts (fault_text f)) (status_of f) files files2 writes writes2 written faults (outside files2 writes2 written2 faults2) status e later t;
    input = record { left = refl; faults = refl };
  }

  pub declined : (u : Unaccepted) → files2 ≡ files → ((m : List ℕ) → writes m ≤ writes2 m) → IsDeclined IsInTurn Refuses reads reads2 u → Declines u (outside files2 writes2 written faults) (outside files2 writes2 written2 faults2) status → Ends status
  declined Memory e later h (s, kept) = wanted e kept.written s
  declined (Refused f) e later h (inl (s, kept)) = wanted e kept.written s
  declined (Refused f) e later h (inr t) = FileEnds.refused {f = f} {status = status} h (said f e later t)
  declined (Failed f) e later h (inl (s, kept)) = wanted e kept.written s
  declined (Failed f) e later (name, is, turn, rose) (inr t) = FileEnds.unread {name = name} {status = status} turn rose (subst (λ g. Says (fault_text g) (status_of g) the status) is (said f e later t))

  pub kept_still : files2 ≡ files → written2 ≡ written → Ends 30
  kept_still e w = FileEnds.no_memory (record { files = e; written = keeps_by written written2 w; input = record { left = refl; faults = refl } })
