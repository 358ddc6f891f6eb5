-- Told files are refused for one cause.
use Rattle.std.proofs.Common.{◌≡◌, inl, inr, ℕ, true, false, List, [], ◌∷◌, ◌++◌, Some, None, refl, sym, ap, ◌∙◌, subst}
use Rattle.std.specs.List.{AllByRecursion}
use Rattle.rt_object.specs.declared.object.ObjectParts.{ObjectParts}
use Rattle.rt_compile.specs.Texts.{IsFault}
use Rattle.rt_outside.specs.Files.{Files}
use Rattle.rt_system.specs.declared.parts.Entry.{Entry}
use Rattle.rt_system.specs.declared.parts.Entry.TheVariants as entry
use Rattle.rt_system.specs.declared.parts.SystemParts.{SystemParts}
use Rattle.rt_system.specs.Library.{library_text}
use Rattle.rt_system.specs.Systems.{IsTaken, IsBadSystemLine, IsObjectLine}
use Rattle.rt_system.specs.Ticks.{IsBadTickLine}
use Rattle.rt_report.specs.declared.fault.FaultLine.{FaultLine}
use Rattle.rt_report.specs.declared.fault.FaultLine.TheVariants as fault
use Rattle.rt_report.specs.declared.fault.FileKind.{FileKind}
use Rattle.rt_accept.specs.Faulting.{IsForItsCode}
use Rattle.rt_accept.specs.Reading.{HasSystem, RefusesSystem, IsNoFile, missing, too_long, RefusesModule, RefusesTicks}
use Rattle.rt_accept.specs.Systems.{library_name, HasEntry, HaveEntries, RefusesEntry, RefusesEntries}
use Rattle.rt_headline.specs.Go.{Go}
use Rattle.rt_headline.specs.Outcome.{Refuses}
use Rattle.rt_headline.proofs.Layers.{Layers, Lines}
use Rattle.rt_headline.specs.Determined.{SameLine, AreAlike, OneRefusal}
use Rattle.rt_headline.proofs.SameLines.{as_same}
use Rattle.rt_headline.proofs.One.{one_text, is_there, in_text, in_ticks, one_system}
use Rattle.rt_accept.proofs.Statuses.{verdict_status}

module _ (layers : Layers) (rules : Lines) (files : Files) where
  no_file : (k : FileKind) (name : List ℕ) (f f2 : FaultLine) → IsNoFile (Some files) k name f → IsNoFile (Some files) k name f2 → f ≡ f2
  no_file k name f f2 (missing a) (missing b) = refl
  no_file k name f f2 (missing a) (too_long b) = let no : None ≡ Some b.0 = sym a ∙ b.1 in absurd cc
  no_file k name f f2 (too_long a) (missing b) = let no : None ≡ Some a.0 = sym b ∙ a.1 in absurd cc
  no_file k name f f2 (too_long a) (too_long b) = refl

  -- ---- texts

  texts : (name : List ℕ) (f f2 : FaultLine) → RefusesSystem (Some files) false name f → RefusesSystem (Some files) false name f2 → f ≡ f2
  texts name f f2 (RefusesSystem.no_file a) (RefusesSystem.no_file b) = no_file _ name f f2 a b
  texts name f f2 (RefusesSystem.no_file a) (RefusesSystem.bad_line {bytes = x} h k) = absurd (is_there files _ name x f h a)
  texts name f f2 (RefusesSystem.no_file a) (RefusesSystem.object_line {bytes = x} h k) = absurd (is_there files _ name x f h a)
  texts name f f2 (RefusesSystem.bad_line {bytes = x} h k) (RefusesSystem.no_file b) = absurd (is_there files _ name x f2 h b)
  texts name f f2 (RefusesSystem.object_line {bytes = x} h k) (RefusesSystem.no_file b) = absurd (is_there files _ name x f2 h b)
  texts name f f2 (RefusesSystem.bad_line {bytes = x} {n = n} h k) (RefusesSystem.bad_line {bytes = y} {n = m} i j) = ap (λ (l : ℕ). fault.BadLine name l) (rules.one_bad_line y n m (subst (λ (b : List ℕ). IsBadSystemLine false b n) (one_text files name x y h i) k) j)
  texts name f f2 (RefusesSystem.bad_line {bytes = x} {n = n} h k) (RefusesSystem.object_line {bytes = y} {n = m} i j) = absurd (rules.not_both y n m (subst (λ (b : List ℕ). IsBadSystemLine false b n) (one_text files name x y h i) k) j)
  texts name f f2 (RefusesSystem.object_line {bytes = x} {n = n} h k) (RefusesSystem.bad_line {bytes = y} {n = m} i j) = absurd (rules.not_both y m n j (subst (λ (b : List ℕ). IsObjectLine false b n) (one_text files name x y h i) k))
  texts name f f2 (RefusesSystem.object_line {bytes = x} {n = n} h k) (RefusesSystem.object_line {bytes = y} {n = m} i j) = ap (λ (l : ℕ). fault.ObjectLine name l) (rules.one_object_line y n m (subst (λ (b : List ℕ). IsObjectLine false b n) (one_text files name x y h i) k) j)

  ticks : (name : List ℕ) (f f2 : FaultLine) → RefusesTicks (Some files) name f → RefusesTicks (Some files) name f2 → f ≡ f2
  ticks name f f2 (RefusesTicks.no_file a) (RefusesTicks.no_file b) = no_file _ name f f2 a b
  ticks name f f2 (RefusesTicks.no_file a) (RefusesTicks.bad_line {bytes = x} h k) = absurd (is_there files _ name x f h a)
  ticks name f f2 (RefusesTicks.bad_line {bytes = x} h k) (RefusesTicks.no_file b) = absurd (is_there files _ name x f2 h b)
  ticks name f f2 (RefusesTicks.bad_line {bytes = x} {n = n} h k) (RefusesTicks.bad_line {bytes = y} {n = m} i j) = ap (λ (l : ℕ). fault.BadLine name l) (rules.one_bad_tick y n m (subst (λ (b : List ℕ). IsBadTickLine b n) (one_text files name x y h i) k) j)

  -- ---- modules

  not_had : (e : Entry) (o : ObjectParts) (f : FaultLine) → IsTaken false e → HasEntry (Some files) e o → RefusesEntry (Some files) e f → ⊥
  not_had (entry.Module file) o f t h (RefusesModule.no_file k) = is_there files _ file h.bytes f h.file k
  not_had (entry.Module file) o f t h (RefusesModule.no_module {bytes = b} why k l code line) = layers.no_fault h.bytes file o why f h.compiled (subst (λ (x : List ℕ). IsFault x why) (one_text files file b h.bytes k h.file) l) (subst (λ (x : List ℕ). IsForItsCode x why) (one_text files file b h.bytes k h.file) code) line
  not_had (entry.Object file) o f t h r = let free : false ≡ true = t in absurd cc
  not_had entry.Library o f t h r = layers.no_fault library_text library_name o r.why f h r.fault r.code r.line

  one_entry : (e : Entry) (f f2 : FaultLine) → IsTaken false e → RefusesEntry (Some files) e f → RefusesEntry (Some files) e f2 → SameLine f f2
  one_entry (entry.Module file) f f2 t (RefusesModule.no_file a) (RefusesModule.no_file b) = as_same f f2 (no_file _ file f f2 a b)
  one_entry (entry.Module file) f f2 t (RefusesModule.no_file a) (RefusesModule.no_module {bytes = x} why h k code l) = absurd (is_there files _ file x f h a)
  one_entry (entry.Module file) f f2 t (RefusesModule.no_module {bytes = x} why h k code l) (RefusesModule.no_file b) = absurd (is_there files _ file x f2 h b)
  one_entry (entry.Module file) f f2 t (RefusesModule.no_module {bytes = x} why h k code l) (RefusesModule.no_module {bytes = y} why2 i j code2 m) = rules.one_fault y file why why2 f f2 (subst (λ (b : List ℕ). IsFault b why) (one_text files file x y h i) k) j l m
  one_entry (entry.Object file) f f2 t a b = let free : false ≡ true = t in absurd cc
  one_entry entry.Library f f2 t a b = rules.one_fault library_text library_name a.why b.why f f2 a.fault b.fault a.line b.line

  head_same : (x y : Entry) (xs ys : List Entry) → (x ∷ xs) ≡ (y ∷ ys) → x ≡ y
  head_same x y xs ys e = cc

  tail_same : (x y : Entry) (xs ys : List Entry) → (x ∷ xs) ≡ (y ∷ ys) → xs ≡ ys
  tail_same x y xs ys e = cc

  -- the first lines that are refused are one
  firsts : (b : List Entry) (e : Entry) (a : List Entry) (c : List Entry) (k : Entry) (d : List Entry) (os ps : List ObjectParts) (f f2 : FaultLine) → (b ++ e ∷ a) ≡ (c ++ k ∷ d) → AllByRecursion (IsTaken false) (b ++ e ∷ a)
      → HaveEntries (Some files) b os → HaveEntries (Some files) c ps → RefusesEntry (Some files) e f → RefusesEntry (Some files) k f2 → SameLine f f2
  firsts [] e a [] k d os ps f f2 same t h i r s = one_entry e f f2 t.0 r (subst (λ (x : Entry). RefusesEntry (Some files) x f2) (sym (head_same e k a d same)) s)
  firsts [] e a (y ∷ ys) k d os [] f f2 same t h i r s = absurd i
  firsts [] e a (y ∷ ys) k d os (p ∷ ps) f f2 same t h i r s = absurd (not_had e p f t.0 (subst (λ (x : Entry). HasEntry (Some files) x p) (sym (head_same e y a (ys ++ k ∷ d) same)) i.0) r)
  firsts (x ∷ xs) e a [] k d [] ps f f2 same t h i r s = absurd h
  firsts (x ∷ xs) e a [] k d (o ∷ os) ps f f2 same t h i r s = absurd (not_had x o f2 t.0 h.0 (subst (λ (z : Entry). RefusesEntry (Some files) z f2) (sym (head_same x k (xs ++ e ∷ a) d same)) s))
  firsts (x ∷ xs) e a (y ∷ ys) k d [] ps f f2 same t h i r s = absurd h
  firsts (x ∷ xs) e a (y ∷ ys) k d (o ∷ os) [] f f2 same t h i r s = absurd i
  firsts (x ∷ xs) e a (y ∷ ys) k d (o ∷ os) (p ∷ ps) f f2 same t h i r s = firsts xs e a ys k d os ps f f2 (tail_same x y (xs ++ e ∷ a) (ys ++ k ∷ d) same) t.1 h.1 i.1 r s

  modules : (es : List Entry) (f f2 : FaultLine) → AllByRecursion (IsTaken false) es → RefusesEntries (Some files) es f → RefusesEntries (Some files) es f2 → SameLine f f2
  modules es f f2 t r s =
      let a = r.turn in
      let b = s.turn in
      firsts a.before r.entry a.after b.before s.entry b.after a.objects b.objects f f2 (sym a.lines ∙ b.lines) (subst (λ (xs : List Entry). AllByRecursion (IsTaken false) xs) a.lines t) a.have b.have r.refused s.refused

  none_refused : (b : List Entry) (e : Entry) (a : List Entry) (os : List ObjectParts) (f : FaultLine) → AllByRecursion (IsTaken false) (b ++ e ∷ a) → HaveEntries (Some files) (b ++ e ∷ a) os → RefusesEntry (Some files) e f → ⊥
  none_refused [] e a [] f t h r = absurd h
  none_refused [] e a (o ∷ os) f t h r = not_had e o f t.0 h.0 r
  none_refused (x ∷ xs) e a [] f t h r = absurd h
  none_refused (x ∷ xs) e a (o ∷ os) f t h r = none_refused xs e a os f t.1 h.1 r

  none : (es : List Entry) (os : List ObjectParts) (f : FaultLine) → AllByRecursion (IsTaken false) es → HaveEntries (Some files) es os → RefusesEntries (Some files) es f → ⊥
  none es os f t h r =
      let a = r.turn in
      none_refused a.before r.entry a.after os f (subst (λ (xs : List Entry). AllByRecursion (IsTaken false) xs) a.lines t) (subst (λ (xs : List Entry). HaveEntries (Some files) xs os) a.lines h) r.refused

  -- ---- all of them

  entries_same : (name : List ℕ) (s s2 : SystemParts) → HasSystem (Some files) false name s → HasSystem (Some files) false name s2 → s.entries ≡ s2.entries
  entries_same name s s2 h k = ap (λ (x : SystemParts). x.entries) (one_system layers files name s s2 h k)

  taken : (name : List ℕ) (s : SystemParts) → HasSystem (Some files) false name s → AllByRecursion (IsTaken false) s.entries
  taken name s h = h.is_system.parts.taken

  alike : (g : Go) (f f2 : FaultLine) → Refuses (Some files) g f → Refuses (Some files) g f2 → AreAlike f f2
  alike g f f2 (Refuses.in_text a) (Refuses.in_text b) = inl (as_same f f2 (texts g.system f f2 a b))
  alike g f f2 (Refuses.in_text a) (Refuses.in_ticks {s = s} h b) = absurd (in_text layers files g.system s f h a)
  alike g f f2 (Refuses.in_text a) (Refuses.in_module {s = s} h t b) = absurd (in_text layers files g.system s f h a)
  alike g f f2 (Refuses.in_text a) (Refuses.in_verdict {s = s} h t k b) = absurd (in_text layers files g.system s f h a)
  alike g f f2 (Refuses.in_ticks {s = s} h a) (Refuses.in_text b) = absurd (in_text layers files g.system s f2 h b)
  alike g f f2 (Refuses.in_ticks h a) (Refuses.in_ticks k b) = inl (as_same f f2 (ticks g.ticks f f2 a b))
  alike g f f2 (Refuses.in_ticks h a) (Refuses.in_module {gaps = x} k t b) = absurd (in_ticks layers files g.ticks x f t a)
  alike g f f2 (Refuses.in_ticks h a) (Refuses.in_verdict {gaps = x} k t l b) = absurd (in_ticks layers files g.ticks x f t a)
  alike g f f2 (Refuses.in_module {s = s} h t a) (Refuses.in_text b) = absurd (in_text layers files g.system s f2 h b)
  alike g f f2 (Refuses.in_module {gaps = x} h t a) (Refuses.in_ticks k b) = absurd (in_ticks layers files g.ticks x f2 t b)
  alike g f f2 (Refuses.in_module {s = s} h t a) (Refuses.in_module {s = s2} k u b) = inl (modules s2.entries f f2 (taken g.system s2 k) (subst (λ (es : List Entry). RefusesEntries (Some files) es f) (entries_same g.system s s2 h k) a) b)
  alike g f f2 (Refuses.in_module {s = s} h t a) (Refuses.in_verdict {s = s2} {objects = os} k u l b) = absurd (none s2.entries os f (taken g.system s2 k) l (subst (λ (es : List Entry). RefusesEntries (Some files) es f) (entries_same g.system s s2 h k) a))
  alike g f f2 (Refuses.in_verdict {s = s} h t l a) (Refuses.in_text b) = absurd (in_text layers files g.system s f2 h b)
  alike g f f2 (Refuses.in_verdict {gaps = x} h t l a) (Refuses.in_ticks k b) = absurd (in_ticks layers files g.ticks x f2 t b)
  alike g f f2 (Refuses.in_verdict {s = s} {objects = os} h t l a) (Refuses.in_module {s = s2} k u b) = absurd (none s.entries os f2 (taken g.system s h) l (subst (λ (es : List Entry). RefusesEntries (Some files) es f2) (sym (entries_same g.system s s2 h k)) b))
  alike g f f2 (Refuses.in_verdict {s = s} {objects = os} h t l a) (Refuses.in_verdict {s = s2} {objects = os2} k u m b) = inr (verdict_status os s.entries a.why f a.line, verdict_status os2 s2.entries b.why f2 b.line)

pub one_refusal : Layers → Lines → OneRefusal
one_refusal layers rules files g f f2 h k = alike layers rules files g f f2 h k
