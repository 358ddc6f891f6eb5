-- Each record of a derived module has a field.
use Rattle.std.proofs.Common.{◌≢◌, List, [], ◌∷◌, ◌++◌, map, Option, Some, None}
use Rattle.std.specs.List.{AllByRecursion}
use Rattle.rt_pieces.specs.declared.item.Item.{Item}
use Rattle.rt_grammar.specs.declared.at.At.{At}
use Rattle.rt_grammar.specs.declared.at.Ident.{Ident}
use Rattle.rt_grammar.specs.Parts.{Part, push}
use Rattle.rt_syntax_exprs.specs.declared.limits.Context.{Context}
use Rattle.rt_syntax_exprs.specs.declared.tree.WrittenMode.{WrittenMode}
use Rattle.rt_syntax.specs.Derives.{language_limits, in_list}
use Rattle.rt_bricks.specs.declared.fields.Collected.{Collected}
use Rattle.rt_bricks.specs.declared.tree.Declaration.{Declaration}
use Rattle.rt_bricks.specs.declared.tree.Declaration.TheVariants as declares
use Rattle.rt_bricks.specs.declared.tree.Fields.{Fields}
use Rattle.rt_bricks.specs.declared.tree.Module.{Module}
use Rattle.rt_bricks.specs.Declarations as line
use Rattle.rt_bricks.specs.Derives.{Derives}
use Rattle.rt_modes.specs.declared.mode.Field.{Field}
use Rattle.rt_modes.specs.declared.mode.RecordDef.{RecordDef}
use Rattle.rt_check_declared.specs.declared.site.Site.{Site}
use Rattle.rt_check_declared.specs.declared.site.Site.TheVariants as site
use Rattle.rt_check_declared.specs.declared.written.Resolved.{Resolved}
use Rattle.rt_check_declared.specs.declared.written.Resolved.TheVariants as resolved
use Rattle.rt_check_declared.specs.Fields.{fields_by, written_fields}
use Rattle.rt_check_declared.specs.Records.{definition, record_modes}
use Rattle.rt_check_declared.specs.Verdicts.{Verdict, fit, unfit}
use Rattle.rt_check_declared.specs.Written.{Names, written}
use Rattle.rt_check_module.specs.Tree.{modes_seen, tree}
use Rattle.rt_bricks_laws.proofs.AllLists.{all_get}
use Rattle.rt_bricks_laws.proofs.Declarations.{Bricks, each_declared}
use Rattle.rt_bricks_laws.proofs.Yields.{Yields, it, behind, thn, turned}
use Rattle.rt_text_laws.specs.Trees.{RecordsHaveFields}

-- ---- the first mode has a name

abbrev NotEmpty : {A : Type 0} → List A → Type 0
NotEmpty [] = ⊥
NotEmpty (x ∷ xs) = Unit {0}

abbrev BeginNamed : List Fields → Type 0
BeginNamed [] = ⊥
BeginNamed (g ∷ gs) = NotEmpty g.names

pushed : {A : Type 0} (xs : List A) (x : A) → NotEmpty (push xs x)
pushed [] x = tt
pushed (y ∷ ys) x = tt

begin_more : (gs : List Fields) (g : Fields) → BeginNamed gs → BeginNamed (push gs g)
begin_more [] g h = absurd h
begin_more (f ∷ fs) g h = h

abbrev BeginsNamed : Collected → Type 0
BeginsNamed x = BeginNamed (line.all_fields x)

name_more : (gs : List Fields) (g : Fields) (n : Ident) → BeginNamed (push gs g) → BeginNamed (push gs (record { mode = g.mode; names = push g.names n; at = g.at }))
name_more [] g n h = pushed g.names n
name_more (f ∷ fs) g n h = h

with_more : (x : Collected) (m : Option WrittenMode) (n : Ident) (at : At) → BeginsNamed x → BeginsNamed (line.with_name x m n at)
with_more x None n at h = name_more x.before x.last n h
with_more x (Some w) n at h = begin_more (push x.before x.last) (record { mode = w; names = n ∷ []; at = at }) h

module _ (c : Context) (mode : Part WrittenMode) where
  first_named : Yields (line.first_field c mode) BeginsNamed
  first_named = behind (λ at. behind (λ md. behind (λ n. it tt)))

  any_field : Yields (line.next_field c mode) (λ f. Unit {0})
  any_field = behind (λ at. behind (λ md. behind (λ n. it tt)))

  fields_named : Yields (line.fields c mode) BeginNamed
  fields_named = thn first_named (λ first h. thn (turned line.with_field _ (λ f. Unit {0}) BeginsNamed (behind (λ _. any_field)) (λ x f k u. with_more x f.mode f.name f.at k) h) (λ all k. it k))

abbrev HasField : Declaration → Type 0
HasField (declares.Record r) = BeginNamed r.fields
HasField _ = Unit {0}

bricks_have : (c : Context) → Bricks c HasField
bricks_have c = record {
  record_mode = behind (λ at. behind (λ _. behind (λ n. behind (λ _. thn (fields_named c _) (λ fs h. behind (λ _. behind (λ _. it h)))))));
  data_brick = λ x. behind (λ _. behind (λ n. behind (λ _. behind (λ ls. behind (λ _. behind (λ _. it tt))))));
  stack_brick = λ x. behind (λ _. behind (λ n. behind (λ words. behind (λ _. it tt))));
  result_first = λ x at. behind (λ r. behind (λ n. behind (λ fs. behind (λ b. it tt))));
  name_first = λ x at. behind (λ n. behind (λ fs. behind (λ r. behind (λ b. it tt))));
  imported_procedures = λ from at. behind (λ md. behind (λ ns. behind (λ _. it tt)));
  imported_data = λ from at. behind (λ _. behind (λ n. behind (λ _. behind (λ ls. behind (λ _. behind (λ _. it tt))))));
  imported_stacks = λ at. behind (λ _. behind (λ ns. behind (λ _. it tt)));
}

-- ---- the record that is made of it

fields_some : (v : Verdict Resolved) (ids : List Ident) (more : List Field) → NotEmpty ids → NotEmpty (fields_by v ids ++ more)
fields_some v [] more h = absurd h
fields_some (fit (resolved.Mode m)) (i ∷ ids) more h = tt
fields_some (fit resolved.BadLength) (i ∷ ids) more h = tt
fields_some (unfit f fs) (i ∷ ids) more h = tt

written_some : (names : Names) (place : Site) (gs : List Fields) → BeginNamed gs → NotEmpty (written_fields names place gs)
written_some names place [] h = absurd h
written_some names place (g ∷ gs) h = fields_some (written names g.mode place) g.names (written_fields names place gs) h

abbrev HasOne : RecordDef → Type 0
HasOne d = NotEmpty d.fields

definitions_have : (names : Names) (ds : List Declaration) → AllByRecursion HasField ds → AllByRecursion HasOne (map (definition names) (record_modes ds))
definitions_have names [] h = tt
definitions_have names (declares.Record r ∷ ds) h = (written_some names site.Item r.fields h.0, definitions_have names ds h.1)
definitions_have names (declares.Data d ∷ ds) h = definitions_have names ds h.1
definitions_have names (declares.Stack s ∷ ds) h = definitions_have names ds h.1
definitions_have names (declares.Procedure p ∷ ds) h = definitions_have names ds h.1
definitions_have names (declares.ImportedProcedures p ∷ ds) h = definitions_have names ds h.1
definitions_have names (declares.ImportedData d ∷ ds) h = definitions_have names ds h.1
definitions_have names (declares.ImportedStacks s ∷ ds) h = definitions_have names ds h.1

not_none : {A : Type 0} (xs : List A) → NotEmpty xs → xs ≢ []
not_none [] h e = h
not_none (x ∷ xs) h e = absurd cc

pub records_have_fields : (items : List Item) (m : Module) → Derives items m → RecordsHaveFields (tree m)
records_have_fields items m derived r d at =
    let all = definitions_have (modes_seen m.declarations) m.declarations (each_declared HasField items (bricks_have (in_list items language_limits)) m derived) in
    not_none d.fields (all_get HasOne (tree m).modes.records r d all at)
