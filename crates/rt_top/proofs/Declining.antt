-- Why a system isn't accepted, and what is accepted.
use Rattle.std.proofs.Common.{◌≡◌, false, ℕ, ◌≤◌, List, Option, Result, Ok, Err, refl, sym, subst, arith}
use Rattle.std.specs.Prelude.{IfOk, IfErr}
use Rattle.std.specs.List.{AllByRecursion}
use Rattle.rt_words.specs.Causes.{Rose}
use Rattle.rt_image.specs.declared.image.ImageParts.{ImageParts}
use Rattle.rt_image.specs.declared.map.Map.{Map}
use Rattle.rt_object.specs.declared.object.ObjectParts.{ObjectParts}
use Rattle.rt_object.specs.Ranges.{HasObjectRanges}
use Rattle.rt_outside.specs.Files.{Files}
use Rattle.rt_system.specs.declared.parts.SystemParts.{SystemParts}
use Rattle.rt_system.specs.SystemRanges.{HasSystemRanges}
use Rattle.rt_link.specs.Linked.{IsLinked}
use Rattle.rt_report.specs.declared.fault.FaultLine.{FaultLine}
use Rattle.rt_accept.specs.declared.reading.Unaccepted.{Unaccepted}
use Rattle.rt_accept.specs.declared.reading.Unaccepted.TheVariants.{Memory, Refused, Failed}
use Rattle.rt_accept.specs.Reading.{HasSystem, RefusesSystem, HasTicks, RefusesTicks, IsUnaccepted, IsDeclined}
use Rattle.rt_accept.specs.Systems.{HaveEntries, RefusesEntries, IsReadAmong}
use Rattle.rt_headline.specs.Go.{Go}
use Rattle.rt_headline.specs.Outcome.{System, Accepts, Refuses, IsInTurn}
use Rattle.rt_headline.specs.Laws.{TasksAreThere, LinesHaveTrees}
use Rattle.rt_top.specs.declared.running.Accepted.{Accepted}
use Rattle.rt_top.specs.Going.{IsAccepted, IsRefused}
use Rattle.rt_top.specs.Linking.{IsUnlinked}

module _ (files : Option Files) (reads now : List ℕ → ℕ) (g : Go) where
  pub by_system : (u : Unaccepted) → IsUnaccepted (RefusesSystem files false g.system) g.system reads now u → IsRefused files reads now g u
  by_system Memory h = tt
  by_system (Refused f) h = Refuses.in_text h
  by_system (Failed f) h = (g.system, h.0, IsInTurn.text, h.1)

  pub by_ticks : (s : SystemParts) → HasSystem files false g.system s → (u : Unaccepted) → IsUnaccepted (RefusesTicks files g.ticks) g.ticks reads now u → IsRefused files reads now g u
  by_ticks s has Memory h = tt
  by_ticks s has (Refused f) h = Refuses.in_ticks has h
  by_ticks s has (Failed f) h = (g.ticks, h.0, IsInTurn.ticks has, h.1)

  pub by_lines : (s : SystemParts) (gaps : List ℕ) → HasSystem files false g.system s → HasTicks files g.ticks gaps → (u : Unaccepted) → IsDeclined (IsReadAmong files s.entries) (RefusesEntries files s.entries) reads now u → IsRefused files reads now g u
  by_lines s gaps has ticks Memory h = tt
  by_lines s gaps has ticks (Refused f) h = Refuses.in_module has ticks h
  by_lines s gaps has ticks (Failed f) h = (h.0, h.1, IsInTurn.line has ticks h.2, h.3)

  pub by_link : (s : SystemParts) (gaps : List ℕ) (objects : List ObjectParts) → HasSystem files false g.system s → HasTicks files g.ticks gaps → HaveEntries files s.entries objects → (u : Unaccepted) → IsUnlinked s objects u → IsRefused files reads now g u
  by_link s gaps objects has ticks have Memory h = tt
  by_link s gaps objects has ticks have (Refused f) h = Refuses.in_verdict has ticks have h
  by_link s gaps objects has ticks have (Failed f) h = absurd h

-- seen from before other files were read
pub refused_earlier : (files files2 : Option Files) (reads reads2 now : List ℕ → ℕ) (g : Go) (u : Unaccepted) → files2 ≡ files → ((n : List ℕ) → reads n ≤ reads2 n) → IsRefused files2 reads2 now g u → IsRefused files reads now g u
refused_earlier files files2 reads reads2 now g u e less h = by u (subst (λ (x : Option Files). IsRefused x reads2 now g u) e h)
  where
    rose_from : (a b c : ℕ) → a ≤ b → Rose b c → Rose a c
    rose_from a b c l r = omega (arith, l, r)

    by : (v : Unaccepted) → IsRefused files reads2 now g v → IsRefused files reads now g v
    by Memory k = tt
    by (Refused f) k = k
    by (Failed f) k = (k.0, k.1, k.2, rose_from (reads k.0) (reads2 k.0) (now k.0) (less k.0) k.3)

pub err_map : {A E : Type 0} (P Q : E → Type 0) (r : Result A E) → ((e : E) → P e → Q e) → IfErr r P → IfErr r Q
err_map P Q (Ok x) f h = tt
err_map P Q (Err e) f h = f e h

pub ok_map : {A E : Type 0} (P Q : A → Type 0) (r : Result A E) → ((x : A) → P x → Q x) → IfOk r P → IfOk r Q
ok_map P Q (Ok x) f h = f x h
ok_map P Q (Err e) f h = tt

-- what is linked is accepted
pub accepted : TasksAreThere → LinesHaveTrees → (files : Option Files) (g : Go) (s : SystemParts) (gaps : List ℕ) (objects : List ObjectParts) (image : ImageParts) → HasSystem files false g.system s → HasSystemRanges s → HasTicks files g.ticks gaps → HaveEntries files s.entries objects → AllByRecursion HasObjectRanges objects → ((its : Map) × IsLinked objects s.tasks image its)
    → (x : Accepted) → x.image ≡ image → x.ticks ≡ gaps → IsAccepted files g x
accepted tasks trees files g s gaps objects image has ranges ticks have in_range linked x e f =
    let ts = trees files s.entries objects has.is_system.parts.taken in_range have in
    let l = linked.1 in
    let xs = tasks objects s.tasks l.known l.judged in
    record {
      system = record { parts = s; gaps = gaps; trees = ts.0; objects = objects; tasks = xs.0 };
      accepts = record { system = has; ticks = ticks; modules = ts.1; known = l.known; judged = l.judged; tasks = xs.1 };
      gaps = sym f;
      ranges = ranges;
      its_map = linked.0;
      linked = subst (λ (i : ImageParts). IsLinked objects s.tasks i linked.0) (sym e) l;
    }
