-- The items of a module's data bricks are fields.
use Rattle.std.proofs.Common.{◌≡◌, ℕ, Bool, true, false, ◌&&◌, ◌||◌, List, [], ◌∷◌, length, map, Option, Some, None, refl, sym, ◌∙◌, subst}
use Rattle.std.specs.Prelude.{codes, slice_get}
use Rattle.std.specs.List.{list_all, AllByRecursion}
use Rattle.std.specs.Str.{bytes_eq}
use Rattle.rt_grammar.specs.declared.at.Ident.{Ident}
use Rattle.rt_bricks.specs.declared.tree.DataItem.{DataItem}
use Rattle.rt_bricks.specs.declared.tree.DataLine.{DataLine}
use Rattle.rt_bricks.specs.declared.tree.Declaration.{Declaration}
use Rattle.rt_bricks.specs.declared.tree.Declaration.TheVariants as declares
use Rattle.rt_bricks.specs.declared.tree.Fields.{Fields}
use Rattle.rt_modes.specs.declared.mode.Field.{Field}
use Rattle.rt_modes.specs.declared.mode.ModeTable.{ModeTable}
use Rattle.rt_modes.specs.declared.mode.RecordDef.{RecordDef}
use Rattle.rt_tree_nodes.specs.declared.brick.Brick.{Brick}
use Rattle.rt_tree_nodes.specs.declared.brick.BrickSort.{BrickSort}
use Rattle.rt_tree_nodes.specs.declared.brick.BrickSort.TheVariants as brick_sort
use Rattle.rt_tree_nodes.specs.declared.brick.DataStart.{DataStart}
use Rattle.rt_tree_nodes.specs.declared.brick.Kind.{Kind}
use Rattle.rt_tree_nodes.specs.Scopes.{Scope, is_svc, field_is, is_label_layer}
use Rattle.rt_tree.specs.Modules.{field_stands, item_stands, data_starts, sort_fits, brick_fits}
use Rattle.rt_check_declared.specs.Written.{Names, written}
use Rattle.rt_check_declared.specs.declared.site.Site.TheVariants as site
use Rattle.rt_check_declared.specs.Names.{idents}
use Rattle.rt_check_declared.specs.declared.bricks.Heading.{Heading}
use Rattle.rt_check_declared.specs.declared.bricks.Sort.{Sort}
use Rattle.rt_check_declared.specs.declared.bricks.Sort.TheVariants as sort
use Rattle.rt_check_declared.specs.declared.parts.Given.{Given}
use Rattle.rt_check_declared.specs.declared.parts.Given.TheVariants as given
use Rattle.rt_check_declared.specs.declared.parts.Line.{Line}
use Rattle.rt_check_declared.specs.declared.parts.Part.{Part}
use Rattle.rt_check_declared.specs.Bricks.{import_kind, imported_procedure, imported_stack, variable, bricks_in, bricks}
use Rattle.rt_check_declared.specs.Parts.{line_by, part, recovers, imported_line, parts, item_parts}
use Rattle.rt_check_declared.specs.Totals.{with_field, all_fields}
use Rattle.rt_tree.specs.Opened.{IsField}
use Rattle.rt_check_module.specs.declared.filling.Filling.{Filling}
use Rattle.rt_check_module.specs.Tree.{or_none, sort_by, filled}
use Rattle.rt_bricks_laws.proofs.AllLists.{left_of, all_joined, all_mapped, all_so, all_get, true_all}
use Rattle.rt_bricks_laws.specs.Spelled.{IsSpelledName}
use Rattle.rt_bricks_laws.specs.SpelledDeclarations.{IdentSpelled, FieldsSpelled, ItemSpelled, LineSpelled, DeclarationSpelled}
use Rattle.rt_check_module_laws.proofs.Tables.{FieldNamed, are_fields}

-- ---- the items that a brick declares

abbrev PartNamed : Part → Type 0
PartNamed p = IsSpelledName p.name

parts_named : (l : Line) (ids : List Ident) → AllByRecursion IdentSpelled ids → AllByRecursion PartNamed (map (part l) ids)
parts_named l [] h = tt
parts_named l (i ∷ ids) h = (h.0, parts_named l ids h.1)

idents_spelled : (is : List DataItem) → AllByRecursion ItemSpelled is → AllByRecursion IdentSpelled (idents is)
idents_spelled [] h = tt
idents_spelled (i ∷ is) h = (h.0, idents_spelled is h.1)

-- ---- bricks as they are declared

abbrev SortNamed : Sort → Type 0
SortNamed (sort.Items ps) = AllByRecursion PartNamed ps
SortNamed _ = Unit {0}

abbrev HeadingNamed : Heading → Type 0
HeadingNamed h = SortNamed h.sort

module _ (names : Names) where
  items_named : (ls : List DataLine) → AllByRecursion LineSpelled ls → AllByRecursion PartNamed (item_parts names ls)
  items_named [] h = tt
  items_named (l ∷ ls) h =
      let read : Line = line_by (written names l.mode site.Item) in
      all_joined PartNamed (map (part read) (idents l.items)) (item_parts names ls) (parts_named read (idents l.items) (idents_spelled l.items h.0)) (items_named ls h.1)

  imported_named : (erl : Bool) (gs : List Fields) → AllByRecursion FieldsSpelled gs → AllByRecursion PartNamed (parts names erl gs)
  imported_named erl [] h = tt
  imported_named erl (g ∷ gs) h =
      let read : Line = imported_line names erl g in
      all_joined PartNamed (map (part read) g.names) (parts names erl gs) (parts_named read g.names h.0) (imported_named erl gs h.1)

  one_named : (d : Declaration) → DeclarationSpelled d → AllByRecursion HeadingNamed (bricks_in names d)
  one_named (declares.Record r) h = tt
  one_named (declares.Data d) h = (items_named d.lines h, tt)
  one_named (declares.Stack s) h = (tt, tt)
  one_named (declares.Procedure p) h = (tt, tt)
  one_named (declares.ImportedProcedures p) h = all_mapped HeadingNamed (imported_procedure (import_kind p.import) (variable names p.mode)) p.names (λ i. tt)
  one_named (declares.ImportedData d) h = (imported_named (recovers d.import d.name.name) d.lines h, tt)
  one_named (declares.ImportedStacks s) h = all_mapped HeadingNamed imported_stack s.names (λ i. tt)

  headings_named : (ds : List Declaration) → AllByRecursion DeclarationSpelled ds → AllByRecursion HeadingNamed (bricks names ds)
  headings_named [] h = tt
  headings_named (d ∷ ds) h = all_joined HeadingNamed (bricks_in names d) (bricks names ds) (one_named d h.0) (headings_named ds h.1)

-- ---- bricks of the tree

abbrev AnyNamed : Option (List Field) → Type 0
AnyNamed o = AllByRecursion FieldNamed (or_none o)

with_named : (n : List ℕ) (g : Given) (o : Option (List Field)) → IsSpelledName n → AnyNamed o → AnyNamed (with_field n g o)
with_named n given.Unknown o h k = tt
with_named n (given.Mode m) None h k = tt
with_named n (given.Mode m) (Some fs) h k = (h, k)

all_named : (ps : List Part) → AllByRecursion PartNamed ps → AnyNamed (all_fields ps)
all_named [] h = tt
all_named (p ∷ ps) h = with_named p.name p.has (all_fields ps) h.0 (all_named ps h.1)

abbrev DataNamed : BrickSort → Type 0
DataNamed (brick_sort.Data fs ss) = AllByRecursion FieldNamed fs
DataNamed _ = Unit {0}

abbrev BrickNamed : Brick → Type 0
BrickNamed b = DataNamed b.sort

sort_named : (x : Sort) (f : Filling) → SortNamed x → DataNamed (sort_by x f)
sort_named (sort.Procedure (given.Mode m)) f h = tt
sort_named (sort.Procedure given.Unknown) f h = tt
sort_named (sort.Items ps) f h = all_named ps h
sort_named (sort.Stack n) f h = tt

bricks_named : (hs : List Heading) (fs : List Filling) → AllByRecursion HeadingNamed hs → AllByRecursion BrickNamed (filled hs fs)
bricks_named [] fs h = tt
bricks_named (x ∷ hs) [] h = tt
bricks_named (x ∷ hs) (f ∷ fs) h = (sort_named x.sort f h.0, bricks_named hs fs h.1)

-- ---- their modes

-- only in supplied data LABEL may stand
plain_item : (a r : Bool) (k : Kind) → is_svc k ≡ false → a || (is_svc k && r) ≡ true → a ≡ true
plain_item true r k e h = refl
plain_item false r k e h = absurd (let bad : (is_svc k && r) ≡ false = rw e refl in let worse = sym bad ∙ h in cc)

item_modes : (n : ℕ) (k : Kind) (name : List ℕ) (fs : List Field) → is_svc k ≡ false → list_all (item_stands n k name) fs ≡ true → AllByRecursion (λ f. field_stands n f ≡ true) fs
item_modes n k name fs e h =
    all_so (λ f. item_stands n k name f ≡ true) (λ f. field_stands n f ≡ true) fs (λ f g. plain_item (field_stands n f) (bytes_eq name (codes "RRERR") && field_is (codes "ERL") is_label_layer f) k e g)
    (true_all (item_stands n k name) fs h)

-- The items of a brick of the tree are fields, where the brick fits and is none that is supplied.
pub items_are_fields : (names : Names) (ds : List Declaration) (fs : List Filling) (c : Scope) (t : ModeTable) (k : ℕ) (d : Brick) (xs : List Field) (ss : List DataStart) → AllByRecursion DeclarationSpelled ds
    → c.records ≡ t.records → list_all (brick_fits c) (filled (bricks names ds) fs) ≡ true → slice_get (filled (bricks names ds) fs) k ≡ Some d → d.sort ≡ brick_sort.Data xs ss → is_svc d.kind ≡ false → AllByRecursion (IsField t) xs
items_are_fields names ds fs c t k d xs ss spelled records fits at is plain =
    let bs : List Brick = filled (bricks names ds) fs in
    let named = subst DataNamed is (all_get BrickNamed bs k d (bricks_named (bricks names ds) fs (headings_named names ds spelled)) at) in
    let here = subst (λ (x : BrickSort). sort_fits c d.kind d.name x ≡ true) is (all_get (λ b. brick_fits c b ≡ true) bs k d (true_all (brick_fits c) bs fits) at) in
    let modes = item_modes (length c.records) d.kind d.name xs plain (left_of (list_all (item_stands (length c.records) d.kind d.name) xs) (data_starts c d.kind xs ss) here) in
    are_fields t xs named (subst (λ (rs : List RecordDef). AllByRecursion (λ f. field_stands (length rs) f ≡ true) xs) records modes)
