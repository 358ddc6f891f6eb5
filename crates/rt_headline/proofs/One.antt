-- The outcome of told files is one.
use Rattle.std.proofs.Common.{◌≡◌, ℕ, false, List, [], ◌∷◌, ◌++◌, length, Some, None, refl, sym, ap, ◌∙◌, subst, arith}
use Rattle.rt_tree_nodes.specs.declared.brick.ModuleParts.{ModuleParts}
use Rattle.rt_object.specs.declared.object.ObjectParts.{ObjectParts}
use Rattle.rt_compile.specs.Texts.{IsObjectOfText}
use Rattle.rt_outside.specs.Files.{Files}
use Rattle.rt_system.specs.declared.parts.Entry.{Entry}
use Rattle.rt_system.specs.declared.parts.Entry.TheVariants as entry
use Rattle.rt_system.specs.declared.parts.SystemParts.{SystemParts}
use Rattle.rt_system.specs.Library.{library_text}
use Rattle.rt_system.specs.Systems.{IsSystem, IsBadSystemLine, IsObjectLine}
use Rattle.rt_system.specs.Ticks.{IsBadTickLine}
use Rattle.rt_report.specs.declared.fault.FaultLine.{FaultLine}
use Rattle.rt_report.specs.declared.fault.FileKind.{FileKind}
use Rattle.rt_accept.specs.Reading.{HasSystem, RefusesSystem, IsFile, IsNoFile, missing, too_long, HasTicks, RefusesModule, RefusesTicks}
use Rattle.rt_accept.specs.Systems.{HasEntry, HaveEntries, RefusesEntry}
use Rattle.rt_accept.specs.Verdicts.{RefusesVerdict}
use Rattle.rt_headline.specs.Go.{Go}
use Rattle.rt_headline.specs.Outcome.{System, IsModule, AreModules, Accepts, Refuses}
use Rattle.rt_headline.specs.Headline.{Goes}
use Rattle.rt_headline.proofs.Layers.{Layers}
use Rattle.rt_headline.specs.Determined.{NeverBoth, IsExcused, IsAccepted, WhereAccepted, IsRefusedFor, WhereRefused}

module _ (files : Files) where
  pub one_text : (name : List ℕ) (b d : List ℕ) → IsFile (Some files) name b → IsFile (Some files) name d → b ≡ d
  one_text name b d h k = let e : Some b ≡ Some d = sym h.has ∙ k.has in cc

  pub is_there : (k : FileKind) (name bytes : List ℕ) (f : FaultLine) → IsFile (Some files) name bytes → IsNoFile (Some files) k name f → ⊥
  is_there k name bytes f h (missing e) = let no : Some bytes ≡ None = sym h.has ∙ e in cc
  is_there k name bytes f h (too_long (other, e, long)) =
      let same : Some bytes ≡ Some other = sym h.has ∙ e in
      let is : bytes ≡ other = cc in
      let n = ap (λ (xs : List ℕ). length xs) is in
      let short = h.short in
      omega (arith, n, long, short)

module _ (layers : Layers) (files : Files) where
  -- ---- texts

  pub in_text : (name : List ℕ) (s : SystemParts) (f : FaultLine) → HasSystem (Some files) false name s → RefusesSystem (Some files) false name f → ⊥
  in_text name s f h (RefusesSystem.no_file k) = is_there files _ name h.bytes f h.file k
  in_text name s f h (RefusesSystem.bad_line {bytes = b} {n = n} k l) = layers.no_bad_line h.bytes s n h.is_system (subst (λ (x : List ℕ). IsBadSystemLine false x n) (one_text files name b h.bytes k h.file) l)
  in_text name s f h (RefusesSystem.object_line {bytes = b} {n = n} k l) = layers.no_object_line h.bytes s n h.is_system (subst (λ (x : List ℕ). IsObjectLine false x n) (one_text files name b h.bytes k h.file) l)

  pub in_ticks : (name gaps : List ℕ) (f : FaultLine) → HasTicks (Some files) name gaps → RefusesTicks (Some files) name f → ⊥
  in_ticks name gaps f h (RefusesTicks.no_file k) = is_there files _ name h.bytes f h.file k
  in_ticks name gaps f h (RefusesTicks.bad_line {bytes = b} {n = n} k l) = layers.no_bad_tick h.bytes gaps n h.are_ticks (subst (λ (x : List ℕ). IsBadTickLine x n) (one_text files name b h.bytes k h.file) l)

  pub one_system : (name : List ℕ) (s t : SystemParts) → HasSystem (Some files) false name s → HasSystem (Some files) false name t → s ≡ t
  one_system name s t h k = layers.one_system k.bytes s t (subst (λ (x : List ℕ). IsSystem false x s) (one_text files name h.bytes k.bytes h.file k.file) h.is_system) k.is_system

  -- ---- modules

  of_text : (text : List ℕ) (t : ModuleParts) (o : ObjectParts) (e : Entry) (m : IsModule (Some files) e t o) → m.text ≡ text → IsObjectOfText text o
  of_text text t o e m same = subst (λ (x : List ℕ). IsObjectOfText x o) same (record { tree = t; is_tree = m.is_tree; object = m.object })

  in_entry : (e : Entry) (t : ModuleParts) (o : ObjectParts) (f : FaultLine) → IsModule (Some files) e t o → RefusesEntry (Some files) e f → ⊥
  in_entry (entry.Module file) t o f m (RefusesModule.no_file k) = is_there files _ file m.text f m.is_text k
  in_entry (entry.Module file) t o f m (RefusesModule.no_module {bytes = b} why k l code line) = layers.no_fault b file o why f (of_text b t o (entry.Module file) m (one_text files file m.text b m.is_text k)) l code line
  in_entry (entry.Object file) t o f m r = absurd m.is_text
  in_entry entry.Library t o f m r = layers.no_fault library_text _ o r.why f (of_text library_text t o entry.Library m m.is_text) r.fault r.code r.line

  in_entries : (before : List Entry) (e : Entry) (after : List Entry) (ts : List ModuleParts) (os : List ObjectParts) (f : FaultLine) → AreModules (Some files) (before ++ e ∷ after) ts os → RefusesEntry (Some files) e f → ⊥
  in_entries [] e after [] [] f h r = absurd h
  in_entries [] e after [] (o ∷ os) f h r = absurd h
  in_entries [] e after (t ∷ ts) [] f h r = absurd h
  in_entries [] e after (t ∷ ts) (o ∷ os) f h r = in_entry e t o f h.0 r
  in_entries (x ∷ xs) e after [] [] f h r = absurd h
  in_entries (x ∷ xs) e after [] (o ∷ os) f h r = absurd h
  in_entries (x ∷ xs) e after (t ∷ ts) [] f h r = absurd h
  in_entries (x ∷ xs) e after (t ∷ ts) (o ∷ os) f h r = in_entries xs e after ts os f h.1 r

  same_object : (e : Entry) (t : ModuleParts) (o p : ObjectParts) → IsModule (Some files) e t o → HasEntry (Some files) e p → o ≡ p
  same_object (entry.Module file) t o p m h = layers.one_object h.bytes o p (of_text h.bytes t o (entry.Module file) m (one_text files file m.text h.bytes m.is_text h.file)) h.compiled
  same_object (entry.Object file) t o p m h = absurd m.is_text
  same_object entry.Library t o p m h = layers.one_object library_text o p (of_text library_text t o entry.Library m m.is_text) h

  cons_same : (o p : ObjectParts) (os ps : List ObjectParts) → o ≡ p → os ≡ ps → (o ∷ os) ≡ (p ∷ ps)
  cons_same o p os ps e f = cc

  same_objects : (es : List Entry) (ts : List ModuleParts) (os ps : List ObjectParts) → AreModules (Some files) es ts os → HaveEntries (Some files) es ps → os ≡ ps
  same_objects [] [] [] [] h k = refl
  same_objects [] [] [] (p ∷ ps) h k = absurd k
  same_objects [] [] (o ∷ os) ps h k = absurd h
  same_objects [] (t ∷ ts) [] ps h k = absurd h
  same_objects [] (t ∷ ts) (o ∷ os) ps h k = absurd h
  same_objects (e ∷ es) [] [] ps h k = absurd h
  same_objects (e ∷ es) [] (o ∷ os) ps h k = absurd h
  same_objects (e ∷ es) (t ∷ ts) [] ps h k = absurd h
  same_objects (e ∷ es) (t ∷ ts) (o ∷ os) [] h k = absurd k
  same_objects (e ∷ es) (t ∷ ts) (o ∷ os) (p ∷ ps) h k = cons_same o p os ps (same_object e t o p h.0 k.0) (same_objects es ts os ps h.1 k.1)

  -- ---- all

  both : (g : Go) (a : System) (f : FaultLine) → Accepts (Some files) g a → Refuses (Some files) g f → ⊥
  both g a f h (Refuses.in_text r) = in_text g.system a.parts f h.system r
  both g a f h (Refuses.in_ticks has r) = in_ticks g.ticks a.gaps f h.ticks r
  both g a f h (Refuses.in_module {s = s} has ticks r) =
      let e : s.entries ≡ a.parts.entries = ap (λ (x : SystemParts). x.entries) (one_system g.system s a.parts has h.system) in
      let lines = sym e ∙ r.turn.lines in
      in_entries r.turn.before r.entry r.turn.after a.trees a.objects f (subst (λ (es : List Entry). AreModules (Some files) es a.trees a.objects) lines h.modules) r.refused
  both g a f h (Refuses.in_verdict {s = s} {objects = objects} has ticks have r) =
      let e : s ≡ a.parts = one_system g.system s a.parts has h.system in
      let os : a.objects ≡ objects = same_objects a.parts.entries a.trees a.objects objects h.modules (subst (λ (x : SystemParts). HaveEntries (Some files) x.entries objects) e have) in
      let v : RefusesVerdict a.parts a.objects f = subst (λ (xs : List ObjectParts). RefusesVerdict a.parts xs f) (sym os) (subst (λ (x : SystemParts). RefusesVerdict x objects f) e r) in
      layers.no_verdict a.objects a.parts.entries a.parts.tasks h.known v.why f h.judged v.verdict v.line

pub never_both : Layers → NeverBoth
never_both layers files g a f h r = both layers files g a f h r

pub where_accepted : Layers → WhereAccepted
where_accepted layers files c g _ a h (Goes.no_memory n) = IsAccepted.excused (IsExcused.no_memory n)
where_accepted layers files c g status a h (Goes.refused {f = f} r i) = absurd (never_both layers files g a f h r)
where_accepted layers files c g status a h (Goes.unread t r i) = IsAccepted.excused (IsExcused.unread t r i)
where_accepted layers files c g _ a h (Goes.unwritten k n) = IsAccepted.unwritten n
where_accepted layers files c g status a h (Goes.carried k x) = IsAccepted.carried k x

pub where_refused : Layers → WhereRefused
where_refused layers files c g _ f h (Goes.no_memory n) = IsRefusedFor.excused (IsExcused.no_memory n)
where_refused layers files c g status f h (Goes.refused r i) = IsRefusedFor.refused r i
where_refused layers files c g status f h (Goes.unread t r i) = IsRefusedFor.excused (IsExcused.unread t r i)
where_refused layers files c g _ f h (Goes.unwritten {a = a} k n) = absurd (never_both layers files g a f k h)
where_refused layers files c g status f h (Goes.carried {a = a} k x) = absurd (never_both layers files g a f k h)
