-- How `gen` ends.
use Rattle.std.proofs.Common.{◌≡◌, ◌⊎◌, inl, inr, ℕ, ◌<◌, ◌≤◌, Bool, true, List, [], ◌∷◌, Option, Some, string_bytes, refl, sym, ap, ◌∙◌, subst, arith}
use Rattle.rt_outside.specs.Deeds.{Outside, Performed}
use Rattle.rt_outside.specs.Files.{Files}
use Rattle.rt_outside.specs.Held.{first_of}
use Rattle.rt_run.specs.Inputs.{Feed}
use Rattle.rt_generated.specs.declared.store.Texts.{Texts}
use Rattle.rt_generated.specs.Stores.{file_of, files_in, AreTexts}
use Rattle.rt_generated.specs.Texts.{module_name, module_text, system_name, system_text, ticks_name, writes_of, files_of, summary}
use Rattle.rt_accept.specs.Calls.{Call, before, after, Tells}
use Rattle.rt_headline.specs.Go.{Go}
use Rattle.rt_headline.specs.Outcome.{System}
use Rattle.rt_headline.specs.Carrying.{IsCarriedOut, HasNoImage}
use Rattle.rt_headline.specs.Generating.{asked_of, GenEnds}
use Rattle.rt_top.specs.declared.carrying.Prepared.{Prepared}
use Rattle.rt_top.specs.Generating.{IsReadyFor, up_to, IsAllOut, no_image, failed, told}
use Rattle.rt_top.specs.Going.{IsCarriedOn}
use Rattle.rt_top.proofs.Called.{call_of}
use Rattle.rt_top.proofs.Ending.{is_out}

-- ---- the texts

pub files_are : (n : ℕ) (name : List ℕ) (t : Texts) → AreTexts n name t → ◌≡◌ {A = Option Files} (Some (files_in t)) (Some (files_of n name))
files_are n name t are =
    ap (λ (f : List ℕ × List ℕ). Some (first_of (f ∷ file_of t.system ∷ file_of t.ticks ∷ []))) are.module_is
    ∙ ap (λ (f : List ℕ × List ℕ). Some (first_of ((module_name name, module_text n) ∷ f ∷ file_of t.ticks ∷ []))) are.system_is
    ∙ ap (λ (f : List ℕ × List ℕ). Some (first_of ((module_name name, module_text n) ∷ (system_name name, system_text n name) ∷ f ∷ []))) are.ticks_is

abbrev go_by : List ℕ → List ℕ → List ℕ → Go
go_by system ticks name = record { system = system; ticks = ticks; limit = 4000000000; name = name }

pub words_are : (n : ℕ) (name first second : List ℕ) (t : Texts) → first ≡ string_bytes t.system.name → second ≡ string_bytes t.ticks.name → AreTexts n name t → go_by first second name ≡ asked_of name
words_are n name first second t e f are =
    ap (λ (s : List ℕ). go_by s second name) (e ∙ ap (λ (p : List ℕ × List ℕ). p.0) are.system_is) ∙ ap (λ (s : List ℕ). go_by (system_name name) s name) (f ∙ ap (λ (p : List ℕ × List ℕ). p.0) are.ticks_is)

-- ---- what was carried out

module _ (files : Option Files) (g : Go) (n : ℕ) (c : Call) (p : Prepared) (r : IsReadyFor files g p) where
  pub all_failed : (status : ℕ) → IsCarriedOn c g r.accepted.image r.accepted.ticks status → 20 ≤ status → IsAllOut files g n c status
  all_failed status h l = by (is_out files c g r.accepted status r.is h)
    where
      by : ((status ≡ 21) × HasNoImage c g) ⊎ IsCarriedOut c g r.is.system status → IsAllOut files g n c status
      by (inl (e, k)) = subst (IsAllOut files g n c) (sym e) (no_image r.is.accepts k)
      by (inr k) = failed r.is.accepts k l

  pub all_told : (ran : Outside) (text : List ℕ) (done status : ℕ) → IsCarriedOn (up_to c ran) g r.accepted.image r.accepted.ticks done → done < 20 → text ≡ summary n done → Tells text done ran (after c) status → IsAllOut files g n c status
  all_told ran text done status h l e t = by (is_out files (up_to c ran) g r.accepted done r.is h)
    where
      by : ((done ≡ 21) × HasNoImage (up_to c ran) g) ⊎ IsCarriedOut (up_to c ran) g r.is.system done → IsAllOut files g n c status
      by (inl (f, k)) = absurd (omega (arith, l, f))
      by (inr k) = told {done = done} {status = status} ran r.is.accepts k l (subst (λ (x : List ℕ). Tells x done ran (after c) status) e t)

-- ---- the whole call

-- the same of a call with other counts of reads
abbrev other_reads : Call → Call
other_reads c = record c { reads = λ name. 0; reads_after = λ name. 0 }

same_out : (c : Call) (g : Go) (a : System) (status : ℕ) → IsCarriedOut c g a status → IsCarriedOut (other_reads c) g a status
same_out c g a status h = record {
  ranges = h.ranges;
  image = h.image;
  its_map = h.its_map;
  linked = h.linked;
  bytes = h.bytes;
  spelled = h.spelled;
  made = h.made;
  written = h.written;
  carried = (let k = h.carried in record {
    first = k.first;
    last = k.last;
    end = k.end;
    middle = k.middle;
    begins = k.begins;
    runs = k.runs;
    files = k.files;
    later = k.later;
    read_failed = k.read_failed;
    write_failed = k.write_failed;
    reported = k.reported;
  });
}

same_none : (c : Call) (g : Go) → HasNoImage c g → HasNoImage (other_reads c) g
same_none c g h = record { bytes = h.bytes; failed = h.failed; input = record { left = h.input.left; faults = h.input.faults } }

module _ (files files2 files3 : Option Files) (reads reads2 reads3 writes writes2 writes3 : List ℕ → ℕ) (written written3 : Option (List ℕ)) (faults faults3 : ℕ) (left left3 : Feed) (ins ins3 : ℕ) where
  abbrev all : Call
  all = call_of files files3 reads reads3 writes writes3 written written3 faults faults3 left left3 ins ins3

  abbrev rest : Call
  rest = call_of files2 files3 reads2 reads3 writes2 writes3 written written3 faults faults3 left left3 ins ins3

  pub gen_ended : (n : ℕ) (name : List ℕ) (fs : Option Files) (g : Go) (status : ℕ) (well : Bool) → well ≡ true → Performed (writes_of n name) (before all) (before rest) well → fs ≡ Some (files_of n name) → g ≡ asked_of name → IsAllOut fs g n rest status → GenEnds IsCarriedOut all n name status
  gen_ended n name fs g status well e p f q h =
      by status (subst (Performed (writes_of n name) (before all) (before rest)) e p) (subst (λ (x : Go). IsAllOut (Some (files_of n name)) x n rest status) q (subst (λ (x : Option Files). IsAllOut x g n rest status) f h))
    where
      by : (s : ℕ) → Performed (writes_of n name) (before all) (before rest) true → IsAllOut (Some (files_of n name)) (asked_of name) n rest s → GenEnds IsCarriedOut all n name s
      by _ d (no_image a k) = GenEnds.no_image (before rest) a d (same_none rest (asked_of name) k)
      by s d (failed {a = a} at k l) = GenEnds.failed (before rest) at d (same_out rest (asked_of name) a s k) l
      by s d (told {a = a} {done = done} ran at k l t) = GenEnds.told (before rest) ran at d (same_out (up_to rest ran) (asked_of name) a done k) l t
