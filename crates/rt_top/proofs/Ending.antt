-- How `go` ends.
use Rattle.std.proofs.Common.{◌≡◌, ◌≢◌, ◌⊎◌, inl, inr, ℕ, ◌≤◌, List, [], Option, refl, sym, ap, ◌∙◌, subst, arith}
use Rattle.rt_words.specs.Causes.{Rose}
use Rattle.rt_image.specs.declared.image.ImageParts.{ImageParts}
use Rattle.rt_image.specs.Grammar.{IsImage}
use Rattle.rt_outside.specs.Deeds.{Outside, Writes, IsDone, HasFailed, IsLater}
use Rattle.rt_outside.specs.Files.{Files, WhereTold, Has, ChangesOnly}
use Rattle.rt_outside.specs.Laws.{IsEarlier, BeginsEarlier}
use Rattle.rt_report.specs.declared.fault.FaultLine.{FaultLine}
use Rattle.rt_report.specs.declared.fault.FaultLine.TheVariants as fault
use Rattle.rt_report.specs.Faults.{status_of, refusal_text}
use Rattle.rt_run.specs.Inputs.{Feed}
use Rattle.rt_accept.specs.declared.reading.Unaccepted.{Unaccepted}
use Rattle.rt_accept.specs.declared.reading.Unaccepted.TheVariants.{Memory, Refused, Failed}
use Rattle.rt_accept.specs.Calls.{Call, outside, before, after, IsKept, Reports, NothingDone}
use Rattle.rt_headline.specs.Go.{Go, image_name, report_name}
use Rattle.rt_headline.specs.Outcome.{Accepts, Refuses, IsInTurn}
use Rattle.rt_headline.specs.Carrying.{IsCarried, IsCarriedOut, HasNoImage, IsRefusal, GoEnds}
use Rattle.rt_top.specs.declared.running.Accepted.{Accepted}
use Rattle.rt_top.specs.Going.{IsAccepted, IsRefused, IsCarriedOn, IsGivenUp, unwritten, carried}
use Rattle.rt_top.proofs.Called.{call_of}
use Rattle.rt_top.proofs.Ends.{rose_on}
use Rattle.rt_top.proofs.Leaves.{keeps_by}

rose_from : (a b c : ℕ) → a ≤ b → Rose b c → Rose a c
rose_from a b c h k = omega (arith, h, k)

-- a file was written under a name, or its write failed
module _ (name name2 bytes bytes2 : List ℕ) (files files2 : Option Files) (writes writes2 : List ℕ → ℕ) (written : Option (List ℕ)) (faults : ℕ) where
  pub wrote : name ≡ name2 → bytes ≡ bytes2 → WhereTold files2 (Has name bytes) → ChangesOnly name files files2 → ((n : List ℕ) → writes n ≤ writes2 n) → IsDone (Writes name2 bytes2) (outside files writes written faults) (outside files2 writes2 written faults)
  wrote e f has others less = subst (λ (n : List ℕ). IsDone (Writes n bytes2) (outside files writes written faults) (outside files2 writes2 written faults)) e
      (subst (λ (b : List ℕ). IsDone (Writes name b) (outside files writes written faults) (outside files2 writes2 written faults)) f (has, others, refl, record { writes = less; faults = omega arith }))

  pub wrote_not : name ≡ name2 → Rose (writes name) (writes2 name) → ChangesOnly name files files2 → ((n : List ℕ) → writes n ≤ writes2 n) → HasFailed (Writes name2 bytes2) (outside files writes written faults) (outside files2 writes2 written faults)
  wrote_not e rose others less = subst (λ (n : List ℕ). HasFailed (Writes n bytes2) (outside files writes written faults) (outside files2 writes2 written faults)) e (rose, others, refl, record { writes = less; faults = omega arith })

-- a call, and the same from a later moment, at which the files were the same and no count had fallen
module _ (files files2 files3 : Option Files) (reads reads2 reads3 writes writes2 writes3 : List ℕ → ℕ) (written written3 : Option (List ℕ)) (faults faults3 : ℕ) (left left3 : Feed) (ins ins3 : ℕ) where
  abbrev pub whole : Call
  whole = call_of files files3 reads reads3 writes writes3 written written3 faults faults3 left left3 ins ins3

  abbrev pub rest : Call
  rest = call_of files2 files3 reads2 reads3 writes2 writes3 written written3 faults faults3 left left3 ins ins3

  -- the run and its report, in the whole call
  pub run_on : (name name2 : List ℕ) (limit : ℕ) (image : ImageParts) (gaps : List ℕ) (status : ℕ) → name ≡ name2 → IsCarried rest (before rest) limit name image gaps status → IsCarried whole (before rest) limit name2 image gaps status
  run_on name name2 limit image gaps status e k = subst (λ (n : List ℕ). IsCarried whole (before rest) limit n image gaps status) e (record {
    first = k.first;
    last = k.last;
    end = k.end;
    middle = k.middle;
    begins = k.begins;
    runs = k.runs;
    files = k.files;
    later = k.later;
    read_failed = k.read_failed;
    write_failed = k.write_failed;
    reported = k.reported;
  })

  module _ (same : files2 ≡ files) (less : (n : List ℕ) → writes n ≤ writes2 n) where
    later : (o : Outside) → IsLater (before rest) o → IsLater (before whole) o
    later o h = record { writes = λ n. (let k = less n in let j = h.writes n in omega (arith, k, j)); faults = h.faults }

    done : (name bytes : List ℕ) (o : Outside) → IsDone (Writes name bytes) (before rest) o → IsDone (Writes name bytes) (before whole) o
    done name bytes o h = (h.0, subst (λ (f : Option Files). ChangesOnly name f o.files) same h.1, h.2, later o h.3)

    failed : (name bytes : List ℕ) (o : Outside) → HasFailed (Writes name bytes) (before rest) o → HasFailed (Writes name bytes) (before whole) o
    failed name bytes o h = (rose_from (writes name) (writes2 name) (o.writes name) (less name) h.0, subst (λ (f : Option Files). ChangesOnly name f o.files) same h.1, h.2, later o h.3)

    -- what follows the reads, in the whole call
    pub carried_on : (g : Go) (image : ImageParts) (gaps : List ℕ) (status : ℕ) → IsCarriedOn rest g image gaps status → IsCarriedOn whole g image gaps status
    carried_on g image gaps _ (unwritten h) = unwritten (record { bytes = h.bytes; failed = failed (image_name g) h.bytes (after whole) h.failed; input = record { left = h.input.left; faults = h.input.faults } })
    carried_on g image gaps status (carried {bytes = bytes} made spelled d k) = carried {bytes = bytes} {status = status} made spelled (done (image_name g) bytes made d) (record {
      first = k.first;
      last = k.last;
      end = k.end;
      middle = k.middle;
      begins = k.begins;
      runs = k.runs;
      files = k.files;
      later = k.later;
      read_failed = k.read_failed;
      write_failed = k.write_failed;
      reported = k.reported;
    })

-- what was accepted is carried out, or its image can't be written
carried_out : (files : Option Files) (c : Call) (g : Go) (x : Accepted) (bytes : List ℕ) (made : Outside) (status : ℕ) (a : IsAccepted files g x) → IsImage bytes x.image → IsDone (Writes (image_name g) bytes) (before c) made → IsCarried c made g.limit (report_name g) x.image x.ticks status → IsCarriedOut c g a.system status
carried_out files c g x bytes made status a spelled d k = record {
  ranges = a.ranges;
  image = x.image;
  its_map = a.its_map;
  linked = a.linked;
  bytes = bytes;
  spelled = spelled;
  made = made;
  written = d;
  carried = subst (λ (gaps : List ℕ). IsCarried c made g.limit (report_name g) x.image gaps status) (sym a.gaps) k;
}

pub is_out : (files : Option Files) (c : Call) (g : Go) (x : Accepted) (status : ℕ) (a : IsAccepted files g x) → IsCarriedOn c g x.image x.ticks status → ((status ≡ 21) × HasNoImage c g) ⊎ IsCarriedOut c g a.system status
is_out files c g x _ a (unwritten h) = inl (refl, h)
is_out files c g x status a (carried {bytes = bytes} made spelled d k) = inr (carried_out files c g x bytes made status a spelled d k)

pub ended : (files : Option Files) (c : Call) (g : Go) (x : Accepted) (status : ℕ) → IsAccepted files g x → IsCarriedOn c g x.image x.ticks status → GoEnds files c g status
ended files c g x status a k = by (is_out files c g x status a k)
  where
    by : ((status ≡ 21) × HasNoImage c g) ⊎ IsCarriedOut c g a.system status → GoEnds files c g status
    by (inl (e, h)) = subst (GoEnds files c g) (sym e) (GoEnds.unwritten a.accepts h)
    by (inr h) = GoEnds.carried a.accepts h

-- a system that wasn't accepted
module _ (early : BeginsEarlier) (files files2 files3 : Option Files) (reads reads2 reads3 writes writes2 writes3 : List ℕ → ℕ) (written written3 : Option (List ℕ)) (faults faults3 : ℕ) (left : Feed) (ins : ℕ) where
  abbrev the : Call
  the = call_of files files3 reads reads3 writes writes3 written written3 faults faults3 left left ins ins

  module _ (same : files2 ≡ files) (less : (n : List ℕ) → writes n ≤ writes2 n) (reads_later : (n : List ℕ) → reads2 n ≤ reads3 n) (g : Go) (status : ℕ) where
    wanted : (status ≡ 30) × IsKept (outside files2 writes2 written faults) (outside files3 writes3 written3 faults3) → GoEnds files the g status
    wanted h = subst (GoEnds files the g) (sym h.0) (GoEnds.no_memory (record { files = h.1.files ∙ same; written = keeps_by written written3 h.1.written; input = record { left = refl; faults = refl } }))

    told : (f : FaultLine) → Reports (report_name g) (refusal_text f) (status_of f) (outside files2 writes2 written faults) (outside files3 writes3 written3 faults3) status → IsRefusal the g f status
    told f h = record {
      reported = record {
        all = h.all;
        performed = early (Writes (report_name g) (refusal_text f)) [] (outside files writes written faults) (outside files2 writes2 written faults) (outside files3 writes3 written3 faults3) h.all
            (record { files = sym same; written = refl; later = record { writes = less; faults = omega arith } }) h.performed;
        answer = h.answer;
      };
      input = record { left = refl; faults = refl };
    }

    pub declined : (u : Unaccepted) → IsRefused files reads reads2 g u → IsGivenUp g u (outside files2 writes2 written faults) (outside files3 writes3 written3 faults3) status → GoEnds files the g status
    declined Memory h k = wanted k
    declined (Refused f) h (inl k) = wanted k
    declined (Refused f) h (inr k) = GoEnds.refused h (told f k)
    declined (Failed f) h (inl k) = wanted k
    declined (Failed f) h (inr k) = GoEnds.unread h.2 (rose_on (reads h.0) (reads2 h.0) (reads3 h.0) h.3 (reads_later h.0)) (subst (λ (x : FaultLine). IsRefusal the g x status) h.1 (told f k))
