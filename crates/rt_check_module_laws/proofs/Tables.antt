-- Records whose names have no fault and are well spelled can be told apart, and fields whose modes may stand are fields.
use Rattle.std.proofs.Common.{◌≡◌, ℕ, List, [], ◌∷◌, length, map, Some, true, ap, ◌∙◌, subst}
use Rattle.std.specs.Prelude.{slice_get}
use Rattle.std.specs.List.{list_all, AllByRecursion}
use Rattle.rt_grammar.specs.declared.at.Ident.{Ident}
use Rattle.rt_bricks.specs.declared.tree.Declaration.{Declaration}
use Rattle.rt_bricks.specs.declared.tree.Declaration.TheVariants as declares
use Rattle.rt_bricks.specs.declared.tree.Fields.{Fields}
use Rattle.rt_bricks.specs.declared.tree.RecordMode.{RecordMode}
use Rattle.rt_modes.specs.declared.mode.Field.{Field}
use Rattle.rt_modes.specs.declared.mode.ModeTable.{ModeTable}
use Rattle.rt_modes.specs.declared.mode.RecordDef.{RecordDef}
use Rattle.rt_tree.specs.declared.standing.Standing.TheVariants as standing
use Rattle.rt_tree.specs.Modules.{field_stands, record_stands}
use Rattle.rt_tree.specs.Opened.{IsField, IsTable}
use Rattle.rt_check_declared.specs.declared.site.Site.{Site}
use Rattle.rt_check_declared.specs.declared.site.Site.TheVariants as site
use Rattle.rt_check_declared.specs.declared.written.Resolved.{Resolved}
use Rattle.rt_check_declared.specs.declared.written.Resolved.TheVariants as resolved
use Rattle.rt_check_declared.specs.Verdicts.{Verdict, fit, unfit}
use Rattle.rt_check_declared.specs.Written.{Names, written}
use Rattle.rt_check_declared.specs.Names.{name_faults}
use Rattle.rt_check_declared.specs.Fields.{fields_by, written_fields}
use Rattle.rt_check_declared.specs.Records.{definition, record_modes}
use Rattle.rt_bricks_laws.proofs.AllLists.{all_joined, all_get, true_all}
use Rattle.rt_bricks_laws.specs.Spelled.{IsSpelledName}
use Rattle.rt_bricks_laws.specs.SpelledDeclarations.{IdentSpelled, FieldsSpelled, DeclarationSpelled}
use Rattle.rt_check_module_laws.proofs.Apart.{AreApart, record_name, one_place, records_apart}

-- ---- fields are named as they are declared

abbrev pub FieldNamed : Field → Type 0
FieldNamed f = IsSpelledName f.name

-- A field whose name is well spelled, and whose mode may stand, is one.
is_field : (t : ModeTable) (f : Field) → FieldNamed f → field_stands (length t.records) f ≡ true → IsField t f
is_field t f h k = record { is_name = h.is_name; other = h.other; stands = record { place = standing.Alone; levels = 100; refs = 8; passes = k } }

pub are_fields : (t : ModeTable) (fs : List Field) → AllByRecursion FieldNamed fs → AllByRecursion (λ f. field_stands (length t.records) f ≡ true) fs → AllByRecursion (IsField t) fs
are_fields t [] h k = tt
are_fields t (f ∷ fs) h k = (is_field t f h.0 k.0, are_fields t fs h.1 k.1)

ids_named : (m : Resolved) (ids : List Ident) → AllByRecursion IdentSpelled ids → AllByRecursion FieldNamed (fields_by (fit m) ids)
ids_named (resolved.Mode m) [] h = tt
ids_named (resolved.Mode m) (i ∷ ids) h = (h.0, ids_named (resolved.Mode m) ids h.1)
ids_named resolved.BadLength [] h = tt
ids_named resolved.BadLength (i ∷ ids) h = (h.0, ids_named resolved.BadLength ids h.1)

line_named : (v : Verdict Resolved) (ids : List Ident) → AllByRecursion IdentSpelled ids → AllByRecursion FieldNamed (fields_by v ids)
line_named (fit m) ids h = ids_named m ids h
line_named (unfit f fs) ids h = ids_named resolved.BadLength ids h

abbrev DefinitionSpelled : RecordDef → Type 0
DefinitionSpelled d = IsSpelledName d.name × AllByRecursion FieldNamed d.fields

module _ (names : Names) where
  fields_named : (place : Site) (gs : List Fields) → AllByRecursion FieldsSpelled gs → AllByRecursion FieldNamed (written_fields names place gs)
  fields_named place [] h = tt
  fields_named place (g ∷ gs) h =
      all_joined FieldNamed (fields_by (written names g.mode place) g.names) (written_fields names place gs) (line_named (written names g.mode place) g.names h.0) (fields_named place gs h.1)

  -- ---- records

  definition_spelled : (r : RecordMode) → DeclarationSpelled (declares.Record r) → DefinitionSpelled (definition names r)
  definition_spelled r h = (h.0, fields_named site.Item r.fields h.1)

  definitions_spelled : (ds : List Declaration) → AllByRecursion DeclarationSpelled ds → AllByRecursion DefinitionSpelled (map (definition names) (record_modes ds))
  definitions_spelled [] h = tt
  definitions_spelled (declares.Record r ∷ ds) h = (definition_spelled r h.0, definitions_spelled ds h.1)
  definitions_spelled (declares.Data d ∷ ds) h = definitions_spelled ds h.1
  definitions_spelled (declares.Stack s ∷ ds) h = definitions_spelled ds h.1
  definitions_spelled (declares.Procedure p ∷ ds) h = definitions_spelled ds h.1
  definitions_spelled (declares.ImportedProcedures p ∷ ds) h = definitions_spelled ds h.1
  definitions_spelled (declares.ImportedData d ∷ ds) h = definitions_spelled ds h.1
  definitions_spelled (declares.ImportedStacks s ∷ ds) h = definitions_spelled ds h.1

  spelled_at : (ds : List Declaration) (r : ℕ) (d : RecordDef) → AllByRecursion DeclarationSpelled ds → slice_get (map (definition names) (record_modes ds)) r ≡ Some d → DefinitionSpelled d
  spelled_at ds r d h e = all_get DefinitionSpelled (map (definition names) (record_modes ds)) r d (definitions_spelled ds h) e

stands_at : (n : ℕ) (ds : List RecordDef) (r : ℕ) (d : RecordDef) → list_all (record_stands n) ds ≡ true → slice_get ds r ≡ Some d → AllByRecursion (λ f. field_stands n f ≡ true) d.fields
stands_at n ds r d h e = true_all (field_stands n) d.fields (all_get (λ x. record_stands n x ≡ true) ds r d (true_all (record_stands n) ds h) e)

-- the records of some declarations, where names stand for this
pub are_table : (names : Names) (ds : List Declaration) (records : List RecordDef) → map (definition names) (record_modes ds) ≡ records → AllByRecursion DeclarationSpelled ds → name_faults ds ≡ []
    → list_all (record_stands (length records)) records ≡ true → IsTable (record { records = records })
are_table names ds records is spelled none stand =
    let at : (r : ℕ) (d : RecordDef) → slice_get records r ≡ Some d → DefinitionSpelled d = λ r d e. spelled_at names ds r d spelled (ap (λ (xs : List RecordDef). slice_get xs r) is ∙ e) in
    record {
      names = λ r d e. ((at r d e).0.is_name, (at r d e).0.other);
      apart = λ r q d e a b same. one_place record_name records r q d e (subst (AreApart record_name) is (records_apart names ds none)) a b same;
      some = λ r d e. (at r d e).0.some;
      fields = λ r d e. are_fields (record { records = records }) d.fields (at r d e).1 (stands_at (length records) records r d stand e);
    }
