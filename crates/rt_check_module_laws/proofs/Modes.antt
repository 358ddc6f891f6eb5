-- Modes that are written in a module may stand where they are written.
use Rattle.std.proofs.Common.{◌≡◌, ℕ, Bool, true, false, List, [], ◌∷◌, map, Some, if◌then◌else◌, refl, sym, ap, ◌∙◌, subst}
use Rattle.std.specs.Prelude.{slice_get}
use Rattle.std.specs.List.{list_all, AllByRecursion}
use Rattle.rt_grammar.specs.declared.at.Ident.{Ident}
use Rattle.rt_syntax_exprs.specs.declared.tree.WrittenMode.{WrittenMode}
use Rattle.rt_bricks.specs.declared.tree.Declaration.{Declaration}
use Rattle.rt_bricks.specs.declared.tree.Declaration.TheVariants as declares
use Rattle.rt_bricks.specs.declared.tree.Fields.{Fields}
use Rattle.rt_bricks.specs.declared.tree.RecordMode.{RecordMode}
use Rattle.rt_modes.specs.declared.mode.Field.{Field}
use Rattle.rt_modes.specs.declared.mode.Mode.{Mode, out-Mode}
use Rattle.rt_modes.specs.declared.mode.RecordDef.{RecordDef}
use Rattle.rt_tree.specs.declared.standing.Standing.{Standing}
use Rattle.rt_tree.specs.declared.standing.Standing.TheVariants as standing
use Rattle.rt_tree.specs.Modules.{stands, field_stands, record_stands}
use Rattle.rt_exprs_laws.specs.Agreeing.{IsItem, HasItems}
use Rattle.rt_exprs_laws.proofs.Passing.{alone_is_item}
use Rattle.rt_check_declared.specs.declared.site.Site.{Site}
use Rattle.rt_check_declared.specs.declared.site.Site.TheVariants as site
use Rattle.rt_check_declared.specs.declared.written.Resolved.{Resolved}
use Rattle.rt_check_declared.specs.declared.written.Resolved.TheVariants as resolved
use Rattle.rt_check_declared.specs.Verdicts.{Verdict, fit, unfit, ◌>>=◌}
use Rattle.rt_check_declared.specs.Written.{Names, judged, length_fits, counted, written}
use Rattle.rt_check_declared.specs.Fields.{fields_by, faults_by, written_fields, mode_faults}
use Rattle.rt_check_faults.specs.declared.fault.CheckFault.{CheckFault}
use Rattle.rt_check_declared.specs.Records.{definition, record_modes, field_faults}
use Rattle.rt_bricks_laws.specs.Shallow.{shallow}
use Rattle.rt_check_bodies_laws.specs.Standing.{standing_of, AreRecords}
use Rattle.rt_check_bodies_laws.proofs.Shallow.{written_stands}
use Rattle.rt_bricks_laws.specs.Modes.{FieldsShallow, ModesShallow}
use Rattle.rt_bricks_laws.proofs.AllLists.{all_joined, first_nothing, second_nothing, unmapped_nothing, all_mapped, all_true, all_so, all_get}

same_mode : (n m : Mode) → fit (resolved.Mode n) ≡ fit (resolved.Mode m) → n ≡ m
same_mode n m e = cc

counted_is : (n m : Mode) → fit (counted n) ≡ fit (resolved.Mode m) → (n ≡ m) × (length_fits (out-Mode n) ≡ true)
counted_is n m h = by_length (length_fits (out-Mode n)) refl h where
  by_length : (t : Bool) → length_fits (out-Mode n) ≡ t → fit (if t then resolved.Mode n else resolved.BadLength) ≡ fit (resolved.Mode m) → (n ≡ m) × (length_fits (out-Mode n) ≡ true)
  by_length true q h = (same_mode n m h, q)
  by_length false q h = absurd cc

pub record Read (names : Names) (w : WrittenMode) (place : Site) (m : Mode) : Type 0 where
  pub judges : judged names w place ≡ fit m
  pub fits : length_fits (out-Mode m) ≡ true

pub read : (names : Names) (w : WrittenMode) (place : Site) (m : Mode) → written names w place ≡ fit (resolved.Mode m) → Read names w place m
read names w place m e = by_verdict (judged names w place) refl e where
  by_verdict : (v : Verdict Mode) → judged names w place ≡ v → (v >>= λ n. fit (counted n)) ≡ fit (resolved.Mode m) → Read names w place m
  by_verdict (fit n) q h = let z = counted_is n m h in record { judges = q ∙ ap (λ (k : Mode). fit k) z.0; fits = ap (λ (k : Mode). length_fits (out-Mode k)) (sym z.0) ∙ z.1 }
  by_verdict (unfit f fs) q h = absurd cc

module _ (names : Names) (records : ℕ) (known : AreRecords records names) where
  pub mode_stands : (w : WrittenMode) (place : Site) (m : Mode) (levels refs : ℕ) → shallow w levels refs ≡ true → written names w place ≡ fit (resolved.Mode m) → stands records m (standing_of place) levels refs ≡ true
  mode_stands w place m levels refs s e = let r = read names w place m e in (written_stands names records known w place m r.judges).may levels refs s r.fits

  -- the mode of a field stands
  abbrev pub FieldIs : Standing → ℕ → Field → Type 0
  FieldIs p levels f = stands records f.mode p levels 8 ≡ true

  line_stands : (g : Fields) (place : Site) (levels : ℕ) → FieldsShallow levels g → faults_by (written names g.mode place) g.names ≡ [] → AllByRecursion (FieldIs (standing_of place) levels) (fields_by (written names g.mode place) g.names)
  line_stands g place levels h none = by_written (written names g.mode place) refl none where
    by_written : (v : Verdict Resolved) → written names g.mode place ≡ v → faults_by v g.names ≡ [] → AllByRecursion (FieldIs (standing_of place) levels) (fields_by v g.names)
    by_written (fit (resolved.Mode m)) e q = all_mapped (FieldIs (standing_of place) levels) (λ (i : Ident). let f : Field = record { name = i.name; mode = m } in f) g.names (λ i. mode_stands g.mode place m levels 8 h e)
    by_written (fit resolved.BadLength) e q = subst (λ (is : List Ident). AllByRecursion (FieldIs (standing_of place) levels) (fields_by (fit resolved.BadLength) is)) (sym (unmapped_nothing _ g.names q)) tt
    by_written (unfit f fs) e q = absurd cc

  pub fields_stand : (place : Site) (levels : ℕ) (gs : List Fields) → AllByRecursion (FieldsShallow levels) gs → mode_faults names place gs ≡ [] → AllByRecursion (FieldIs (standing_of place) levels) (written_fields names place gs)
  fields_stand place levels [] h none = tt
  fields_stand place levels (g ∷ gs) h none =
      let here : List CheckFault = faults_by (written names g.mode place) g.names in
      let more : List CheckFault = mode_faults names place gs in
      all_joined (FieldIs (standing_of place) levels) (fields_by (written names g.mode place) g.names) (written_fields names place gs) (line_stands g place levels h.0 (first_nothing here more none)) (fields_stand place levels gs h.1 (second_nothing here more none))

  -- ---- records

  abbrev RecordShallow : RecordMode → Type 0
  RecordShallow r = AllByRecursion (FieldsShallow 100) r.fields

  shallow_records : (ds : List Declaration) → AllByRecursion ModesShallow ds → AllByRecursion RecordShallow (record_modes ds)
  shallow_records [] h = tt
  shallow_records (declares.Record r ∷ ds) h = (h.0, shallow_records ds h.1)
  shallow_records (declares.Data d ∷ ds) h = shallow_records ds h.1
  shallow_records (declares.Stack s ∷ ds) h = shallow_records ds h.1
  shallow_records (declares.Procedure p ∷ ds) h = shallow_records ds h.1
  shallow_records (declares.ImportedProcedures p ∷ ds) h = shallow_records ds h.1
  shallow_records (declares.ImportedData d ∷ ds) h = shallow_records ds h.1
  shallow_records (declares.ImportedStacks s ∷ ds) h = shallow_records ds h.1

  abbrev DefinitionStands : RecordDef → Type 0
  DefinitionStands d = AllByRecursion (FieldIs standing.Alone 100) d.fields

  abbrev FieldsFit : RecordMode → Type 0
  FieldsFit r = field_faults names r ≡ []

  defined : (rs : List RecordMode) → AllByRecursion RecordShallow rs → AllByRecursion FieldsFit rs → AllByRecursion DefinitionStands (map (definition names) rs)
  defined [] h fits = tt
  defined (r ∷ rs) h fits = (fields_stand site.Item 100 r.fields h.0 fits.0, defined rs h.1 fits.1)

  definitions_stand : (ds : List Declaration) → AllByRecursion ModesShallow ds → AllByRecursion FieldsFit (record_modes ds) → AllByRecursion DefinitionStands (map (definition names) (record_modes ds))
  definitions_stand ds h fits = defined (record_modes ds) (shallow_records ds h) fits

  pub records_stand : (ds : List Declaration) → AllByRecursion ModesShallow ds → AllByRecursion FieldsFit (record_modes ds) → list_all (record_stands records) (map (definition names) (record_modes ds)) ≡ true
  records_stand ds h fits =
      all_true (record_stands records) (map (definition names) (record_modes ds))
      (all_so DefinitionStands (λ d. record_stands records d ≡ true) (map (definition names) (record_modes ds)) (λ d k. all_true (field_stands records) d.fields k) (definitions_stand ds h fits))

  pub records_have_items : (ds : List Declaration) → AllByRecursion ModesShallow ds → AllByRecursion FieldsFit (record_modes ds) → (r : ℕ) (d : RecordDef) → slice_get (map (definition names) (record_modes ds)) r ≡ Some d → HasItems d
  records_have_items ds h fits r d e =
      all_so (FieldIs standing.Alone 100) (λ (f : Field). IsItem f.mode) d.fields (λ f k. alone_is_item records f.mode k)
      (all_get DefinitionStands (map (definition names) (record_modes ds)) r d (definitions_stand ds h fits) e)
