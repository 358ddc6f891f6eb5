-- Faults that are noted, and one more line of fields.
use Rattle.std.proofs.Common.{◌≡◌, ℕ, ◌+◌, ◌<◌, false, List, [], ◌∷◌, ◌++◌, Option, Some, None, Err, length, drop, get_or, refl, sym, ap, ◌∙◌, add-one, append_assoc, map}
use Rattle.std.proofs.Math.Seq.{drop-cons}
use Rattle.rt_grammar.specs.declared.at.Ident.{Ident}
use Rattle.rt_bricks.specs.declared.tree.Fields.{Fields}
use Rattle.rt_modes.specs.declared.mode.Field.{Field}
use Rattle.rt_modes.specs.declared.mode.Mode.TheVariants as mode
use Rattle.rt_check_faults.specs.declared.fault.CheckFault.{CheckFault}
use Rattle.rt_check_faults.specs.declared.fault.CheckFault.TheVariants.{Memory, UnknownName, WrongMode, NotAssignable, WrongCount, RefOfLocal, LeftOut, DeclaredTwice, BadStart, UnknownLabel, NoResult, Unknown}
use Rattle.rt_check_faults.specs.Outcomes.{Outcome, UnlessMemory, sooner}
use Rattle.rt_check_declared.specs.declared.site.Site.{Site}
use Rattle.rt_check_declared.specs.declared.written.Resolved.{Resolved}
use Rattle.rt_check_declared.specs.Verdicts.{Verdict, fit, unfit, first_of, outcome, with_fault, with_faults}
use Rattle.rt_check_declared.specs.Written.{Names, written}
use Rattle.rt_check_faults.proofs.Counting.{sooner_assoc}
use Rattle.rt_bricks.specs.declared.tree.Declaration.{Declaration}
use Rattle.rt_bricks.specs.declared.tree.Declaration.TheVariants as declares
use Rattle.rt_bricks.specs.declared.tree.RecordMode.{RecordMode}
use Rattle.rt_grammar.specs.declared.at.At.{At}
use Rattle.rt_check_declared.specs.Fields.{is_memory, fields_of_mode, fields_by, faults_by, written_fields, mode_faults, idents}
use Rattle.rt_check_declared.specs.Names.{second_fields}
use Rattle.rt_check_declared.specs.declared.site.Site.TheVariants as site
use Rattle.rt_check_declared.specs.Heads.{noted, head}
use Rattle.rt_check_declared.specs.Records.{record_modes}

pub drop_next : {A : Type 0} (xs : List A) (i : ℕ) (x : A) → i < length xs → x ≡ get_or xs i x → drop i xs ≡ x ∷ drop (i + 1) xs
drop_next xs i x h e = rw (add-one, drop-cons xs i x, ← e) refl

-- ---- faults

pub more_faults : (o : Option CheckFault) (fs gs : List CheckFault) → with_faults (with_faults o fs) gs ≡ with_faults o (fs ++ gs)
unfolding with_faults
more_faults o [] gs = refl
more_faults o (f ∷ fs) gs = more_faults (with_fault o f) fs gs

two_faults : (o : Option CheckFault) (f g : CheckFault) → with_fault (with_fault o f) g ≡ with_fault o (sooner f g)
two_faults None f g = refl
two_faults (Some h) f g = ap (λ x. Some x) (sym (sooner_assoc h f g))

pub first_noted : (o : Option CheckFault) (f : CheckFault) (fs : List CheckFault) → with_fault o (first_of f fs) ≡ with_faults o (f ∷ fs)
unfolding with_faults
first_noted o f [] = refl
first_noted o f (g ∷ gs) = sym (two_faults o f (first_of g gs)) ∙ first_noted (with_fault o f) g gs

abbrev err_of : CheckFault → Outcome Resolved
err_of f = Err f

same_fault : (f g : CheckFault) → err_of f ≡ Err g → f ≡ g
same_fault f g e = cc

-- Where faults stand in a mode, its names have LABEL, and the fault that counts is noted.
pub noted_fields : (v : Verdict Resolved) (ids : List Ident) (fs gs : List Field) (g : CheckFault) → outcome v ≡ Err g → gs ≡ fs ++ fields_of_mode mode.Label ids → gs ≡ fs ++ fields_by v ids
noted_fields (fit r) ids fs gs g e is = absurd cc
noted_fields (unfit f hs) ids fs gs g e is = is

pub noted_fault : (v : Verdict Resolved) (ids : List Ident) (o n : Option CheckFault) (g : CheckFault) → n ≡ with_fault o g → outcome v ≡ Err g → n ≡ with_faults o (faults_by v ids)
noted_fault (fit r) ids o n g is e = absurd cc
noted_fault (unfit f fs) ids o n g is e = is ∙ ap (with_fault o) (sym (same_fault (first_of f fs) g e)) ∙ first_noted o f fs

pub is_fault : (P : Type 0) (f : CheckFault) → is_memory f ≡ false → UnlessMemory f P → P
is_fault P Memory e h = absurd cc
is_fault P (UnknownName at) e h = h
is_fault P (WrongMode at) e h = h
is_fault P (NotAssignable at) e h = h
is_fault P (WrongCount at) e h = h
is_fault P (RefOfLocal at) e h = h
is_fault P (LeftOut form at) e h = h
is_fault P (DeclaredTwice at) e h = h
is_fault P (BadStart at) e h = h
is_fault P (UnknownLabel at) e h = h
is_fault P (NoResult at) e h = h
is_fault P Unknown e h = h

-- ---- one more line

module _ (names : Names) (site : Site) where
  pub fields_step : (a b : List Field) (ls : List Fields) (i : ℕ) (l : Fields) → i < length ls → l ≡ get_or ls i l → b ≡ a ++ fields_by (written names l.mode site) l.names → a ++ written_fields names site (drop i ls) ≡ written_fields names site ls
      → b ++ written_fields names site (drop (i + 1) ls) ≡ written_fields names site ls
  fields_step a b ls i l h e is kept =
      rw (is, append_assoc) (sym (ap (λ (x : List Fields). a ++ written_fields names site x) (drop_next ls i l h e)) ∙ kept)

  pub faults_step : (a b o : Option CheckFault) (ls : List Fields) (i : ℕ) (l : Fields) → i < length ls → l ≡ get_or ls i l → b ≡ with_faults a (faults_by (written names l.mode site) l.names)
      → with_faults a (mode_faults names site (drop i ls)) ≡ o → with_faults b (mode_faults names site (drop (i + 1) ls)) ≡ o
  faults_step a b o ls i l h e is kept =
      rw (is, more_faults) (sym (ap (λ (x : List Fields). with_faults a (mode_faults names site x)) (drop_next ls i l h e)) ∙ kept)

-- ---- names and MODEs

pub map_both : {A B : Type 0} (f : A → B) (xs ys : List A) → map f (xs ++ ys) ≡ map f xs ++ map f ys
map_both f [] ys = refl
map_both f (x ∷ xs) ys = ap (λ zs. f x ∷ zs) (map_both f xs ys)

pub places_step : (a b : List At) (ls : List Fields) (i : ℕ) (l : Fields) (ns : List Ident) → i < length ls → l ≡ get_or ls i l → ns ≡ l.names → b ≡ a ++ map (λ n. n.at) ns → a ++ map (λ n. n.at) (idents (drop i ls)) ≡ map (λ n. n.at) (idents ls)
    → b ++ map (λ n. n.at) (idents (drop (i + 1) ls)) ≡ map (λ n. n.at) (idents ls)
places_step a b ls i l ns h e same is kept =
    ap (λ (x : List At). x ++ map (λ n. n.at) (idents (drop (i + 1) ls))) (is ∙ ap (λ (x : List Ident). a ++ map (λ n. n.at) x) same)
    ∙ append_assoc a (map (λ n. n.at) l.names) (map (λ n. n.at) (idents (drop (i + 1) ls)))
    ∙ ap (λ (x : List At). a ++ x) (sym (map_both (λ n. n.at) l.names (idents (drop (i + 1) ls)))) ∙ ap (λ (x : List Fields). a ++ map (λ n. n.at) (idents x)) (sym (drop_next ls i l h e)) ∙ kept

modes_both : (d : Declaration) (ds : List Declaration) → record_modes (d ∷ ds) ≡ record_modes (d ∷ []) ++ record_modes ds
modes_both (declares.Record r) ds = refl
modes_both (declares.Data r) ds = refl
modes_both (declares.Stack r) ds = refl
modes_both (declares.Procedure r) ds = refl
modes_both (declares.ImportedProcedures r) ds = refl
modes_both (declares.ImportedData r) ds = refl
modes_both (declares.ImportedStacks r) ds = refl

-- the same of anything that is said of each MODE
pub modes_step : {B : Type 0} (f : RecordMode → B) (a b : List B) (ds : List Declaration) (i : ℕ) (d : Declaration) → i < length ds → d ≡ get_or ds i d → b ≡ a ++ map f (record_modes (d ∷ [])) → a ++ map f (record_modes (drop i ds)) ≡ map f (record_modes ds)
    → b ++ map f (record_modes (drop (i + 1) ds)) ≡ map f (record_modes ds)
modes_step {B} f a b ds i d h e is kept =
    ap (λ (x : List B). x ++ map f (record_modes (drop (i + 1) ds))) is ∙ append_assoc a (map f (record_modes (d ∷ []))) (map f (record_modes (drop (i + 1) ds)))
    ∙ ap (λ (x : List B). a ++ x) (sym (map_both f (record_modes (d ∷ [])) (record_modes (drop (i + 1) ds))))
    ∙ ap (λ (x : List RecordMode). a ++ map f x) (sym (modes_both d (drop (i + 1) ds))) ∙ ap (λ (x : List Declaration). a ++ map f (record_modes x)) (sym (drop_next ds i d h e)) ∙ kept

-- ---- two faults

noted_more : (o : Option CheckFault) (f : CheckFault) (fs : List CheckFault) → noted o (with_faults (Some f) fs) ≡ with_faults (with_fault o f) fs
unfolding with_faults
noted_more o f [] = refl
noted_more o f (g ∷ gs) = noted_more o (sooner f g) gs ∙ ap (λ (x : Option CheckFault). with_faults x gs) (sym (two_faults o f g))

pub noted_some : (o : Option CheckFault) (fs : List CheckFault) → noted o (with_faults None fs) ≡ with_faults o fs
unfolding with_faults
noted_some o [] = refl
noted_some o (f ∷ fs) = noted_more o f fs

pub noted_both : (fs gs : List CheckFault) → noted (with_faults None fs) (with_faults None gs) ≡ with_faults None (fs ++ gs)
noted_both fs gs = noted_some (with_faults None fs) gs ∙ more_faults None fs gs

pub head_made : (names : Names) (r : RecordMode) (ls : List Fields) (ats : List At) (f g : Option CheckFault) → ls ≡ r.fields → ats ≡ map (λ i. i.at) (idents ls) → f ≡ with_faults None (mode_faults names site.Item ls) → g ≡ with_faults None (second_fields ls)
    → record { at = r.name.at; fields = ats; fault = f; second = g } ≡ head names r
head_made names r ls ats f g a b c d = rw (c, d, b, a) refl
