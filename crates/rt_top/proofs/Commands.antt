-- Which files the commands leave as they were.
use Rattle.std.proofs.Common.{◌≡◌, inl, inr, ℕ, true, false, List, [], ◌∷◌, Option, refl, sym, subst}
use Rattle.rt_commands.specs.declared.command.Command.TheVariants as command
use Rattle.rt_outside.specs.Deeds.{Writes, Puts}
use Rattle.rt_outside.specs.Laws.{Both, Among, names_in}
use Rattle.rt_outside.specs.Files.{Files}
use Rattle.rt_accept.specs.Calls.{Call, before, after, KeepsOthers}
use Rattle.rt_generated.specs.Texts.{writes_of, summary}
use Rattle.rt_headline.specs.Go.{Go, image_name, report_name}
use Rattle.rt_headline.specs.Outcome.{System}
use Rattle.rt_headline.specs.Carrying.{IsCarriedOut, GoEnds}
use Rattle.rt_headline.specs.Generating.{asked_of, between, GenEnds}
use Rattle.rt_top.specs.Top.{written_by_go, written_by}
use Rattle.rt_top.specs.Compiling.{Named, IsCompiled, CompileEnds}
use Rattle.rt_top.specs.Linking.{LinkNames, IsLinkedNow, LinkEnds}
use Rattle.rt_top.specs.Running.{Asked, RunEnds, no_memory, refused, unread, carried}
use Rattle.rt_top.specs.Showing.{IsShown, ShowEnds}
use Rattle.rt_top.specs.Stacking.{IsTold, StacksEnd}
use Rattle.rt_accept.specs.Reading.{RefusesModule, RefusesObject}
use Rattle.rt_accept.specs.Systems.{IsInTurn}
use Rattle.rt_accept.specs.Verdicts.{RefusesSystems}
use Rattle.rt_top.proofs.Keeping.{Kept, kept_on, deeds_keep, one_keeps, no_file, by_deeds, by_words, file_kept}

-- ---- commands that put their fault line

pub compile_kept : (c : Call) (n : Named) (status : ℕ) → CompileEnds c n status → KeepsOthers (n.object ∷ []) c
compile_kept c n status h = file_kept c (n.object ∷ []) (λ m. m ≡ n.source) (RefusesModule c.files n.source) (IsCompiled c n) (λ m k. by_deeds c (n.object ∷ []) (Writes n.object k.bytes ∷ []) (before c) k.written.all (λ name among. among) refl k.written.performed) status h

pub link_kept : (c : Call) (n : LinkNames) (status : ℕ) → LinkEnds c n status → KeepsOthers (n.image ∷ n.map ∷ []) c
link_kept c n status h = file_kept c (n.image ∷ n.map ∷ []) (IsInTurn c.files n.system) (RefusesSystems c.files n.system) (IsLinkedNow c n) (λ m k. by_deeds c (n.image ∷ n.map ∷ []) (Writes n.image k.made.image ∷ Writes n.map k.made.map ∷ []) (before c) k.written.all (λ name among. among) refl k.written.performed) status h

pub stacks_kept : (c : Call) (name : List ℕ) (status : ℕ) → StacksEnd c name status → KeepsOthers [] c
stacks_kept c name status h = file_kept c [] (IsInTurn c.files name) (RefusesSystems c.files name) (IsTold c name) (λ m k. by_words c [] k.text 0 m k.put) status h

pub show_kept : (c : Call) (name : List ℕ) (status : ℕ) → ShowEnds c name status → KeepsOthers [] c
show_kept c name status h = file_kept c [] (λ n. n ≡ name) (RefusesObject c.files name) (IsShown c name) (λ m k. by_words c [] k.text 0 m k.put) status h

-- ---- run

pub run_kept : (c : Call) (r : Asked) (status : ℕ) → RunEnds c r status → KeepsOthers (r.report ∷ []) c
run_kept c r status (no_memory h) = no_file c (r.report ∷ []) h.files
run_kept c r status (refused h k) = by_deeds c (r.report ∷ []) _ (before c) k.reported.all (λ name among. among) refl k.reported.performed
run_kept c r status (unread turn rose k) = by_deeds c (r.report ∷ []) _ (before c) k.reported.all (λ name among. among) refl k.reported.performed
run_kept c r status (carried has ticks k) = by_deeds c (r.report ∷ []) _ k.middle k.reported.all (λ name among. among) k.files k.reported.performed

-- ---- go

-- what was carried out, to a moment
out_keeps : (names : List (List ℕ)) (c : Call) (g : Go) (a : System) (status : ℕ) → Among names (image_name g) → Among names (report_name g) → IsCarriedOut c g a status → Both c.files c.files_after (Kept names)
out_keeps names c g a status image report h =
    let k = h.carried in
    kept_on names c.files h.made.files c.files_after (one_keeps (image_name g) names c.files h.made.files image h.written.1)
    (subst (λ (x : Option Files). Both x c.files_after (Kept names)) k.files (deeds_keep names _ k.middle (after c) k.reported.all (only (report_name g) names report) k.reported.performed))
  where
    only : (name : List ℕ) (ns : List (List ℕ)) → Among ns name → (n : List ℕ) → Among (name ∷ []) n → Among ns n
    only name ns h n (inl e) = subst (Among ns) (sym e) h
    only name ns h n (inr e) = absurd e

pub go_kept : (files : Option Files) (c : Call) (g : Go) (status : ℕ) → GoEnds files c g status → KeepsOthers (written_by_go g) c
go_kept files c g _ (GoEnds.no_memory h) = no_file c (written_by_go g) h.files
go_kept files c g status (GoEnds.refused r h) = by_deeds c (written_by_go g) _ (before c) h.reported.all (λ name among. inr among) refl h.reported.performed
go_kept files c g status (GoEnds.unread turn rose h) = by_deeds c (written_by_go g) _ (before c) h.reported.all (λ name among. inr among) refl h.reported.performed
go_kept files c g _ (GoEnds.unwritten a h) = one_keeps (image_name g) (written_by_go g) c.files c.files_after (inl refl) h.failed.1
go_kept files c g status (GoEnds.carried {a = a} k h) = out_keeps (written_by_go g) c g a status (inl refl) (inr (inl refl)) h

-- ---- gen

module _ (c : Call) (n : ℕ) (name : List ℕ) where
  abbrev five : List (List ℕ)
  five = written_by (command.Gen n name)

  three : (m : List ℕ) → Among (names_in (writes_of n name)) m → Among five m
  three m (inl e) = inl e
  three m (inr (inl e)) = inr (inl e)
  three m (inr (inr (inl e))) = inr (inr (inl e))
  three m (inr (inr (inr e))) = absurd e

  image_among : Among five (image_name (asked_of name))
  image_among = inr (inr (inr (inl refl)))

  report_among : Among five (report_name (asked_of name))
  report_among = inr (inr (inr (inr (inl refl))))

  pub gen_kept : (status : ℕ) → GenEnds IsCarriedOut c n name status → KeepsOthers five c
  gen_kept _ (GenEnds.no_memory h) = no_file c five h.files
  gen_kept _ (GenEnds.unwritten h k) = by_deeds c five (writes_of n name) (before c) false three refl h
  gen_kept _ (GenEnds.no_image made a h k) =
      kept_on five c.files made.files c.files_after (deeds_keep five (writes_of n name) (before c) made true three h) (one_keeps (image_name (asked_of name)) five made.files c.files_after image_among k.failed.1)
  gen_kept status (GenEnds.failed {a = a} made at h k l) =
      kept_on five c.files made.files c.files_after (deeds_keep five (writes_of n name) (before c) made true three h) (out_keeps five (between c made (after c)) (asked_of name) a status image_among report_among k)
  gen_kept status (GenEnds.told {a = a} {done = d} made ran at h k l t) =
      kept_on five c.files made.files c.files_after (deeds_keep five (writes_of n name) (before c) made true three h)
      (kept_on five made.files ran.files c.files_after (out_keeps five (between c made ran) (asked_of name) a d image_among report_among k)
      (deeds_keep five (Puts (summary n d) ∷ []) ran (after c) t.all (λ m among. absurd among) t.performed))
