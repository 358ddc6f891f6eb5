-- The typed tree of a module, and the faults that stand in it.
use Rattle.std.specs.Prelude.{◌⊎◌, List, [], ◌∷◌, ◌++◌, drop, map, replicate, Option, Some, None}
use Rattle.rt_bricks.specs.declared.tree.Declaration.{Declaration}
use Rattle.rt_bricks.specs.declared.tree.Declaration.TheVariants as declares
use Rattle.rt_bricks.specs.declared.tree.Module.{Module}
use Rattle.rt_modes.specs.declared.mode.Field.{Field}
use Rattle.rt_modes.specs.declared.mode.RecordDef.{RecordDef}
use Rattle.rt_tree_nodes.specs.declared.brick.Brick.{Brick}
use Rattle.rt_tree_nodes.specs.declared.brick.BrickSort.{BrickSort}
use Rattle.rt_tree_nodes.specs.declared.brick.BrickSort.TheVariants as brick_sort
use Rattle.rt_tree_nodes.specs.declared.brick.ModuleParts.{ModuleParts}
use Rattle.rt_exprs.specs.Names.{find_in}
use Rattle.rt_sizes.specs.Sizes.{Table}
use Rattle.rt_check_declared.specs.Written.{Names}
use Rattle.rt_syntax.specs.Strings.{Texts, in_body}
use Rattle.rt_exprs.specs.Sights.{Sight, Names as Level}
use Rattle.rt_check_bodies.specs.Procedures.{procedure}
use Rattle.rt_check_declared.specs.Names.{bricks_in, scope}
use Rattle.rt_check_declared.specs.Records.{table}
use Rattle.rt_check_declared.specs.declared.bricks.Heading.{Heading}
use Rattle.rt_check_declared.specs.declared.bricks.Sort.{Sort}
use Rattle.rt_check_declared.specs.declared.bricks.Sort.TheVariants as sort
use Rattle.rt_check_declared.specs.declared.parts.Given.TheVariants as given
use Rattle.rt_check_declared.specs.declared.parts.Part.{Part}
use Rattle.rt_check_declared.specs.Bricks.{bricks}
use Rattle.rt_check_declared.specs.Totals.{all_fields}
use Rattle.rt_check_module.specs.Levels.{mode_names, module_names}
use Rattle.rt_check_module.specs.Items.{brick_starts}
use Rattle.rt_check_module.specs.Strings.{brick_texts}
use Rattle.rt_check_module.specs.declared.filling.Filling.{Filling}

-- what names stand for where these are declared
abbrev pub seen : Level → Names
seen l = find_in (l ∷ [])

abbrev pub items_of : Sort → List Part
items_of (sort.Items ps) = ps
items_of _ = []

-- the items of a brick that is data
abbrev pub items_in : Option Heading → List Part
items_in None = []
items_in (Some h) = items_of h.sort

-- ---- from declaration to declaration, with the bricks from its first one on

abbrev pub first : List Heading → Option Heading
first [] = None
first (h ∷ hs) = Some h

abbrev pub gathered : {A : Type 0} → (Option Heading → Declaration → List A) → List Heading → List Declaration → List A
gathered part hs [] = []
gathered part hs (d ∷ ds) = part (first hs) d ++ gathered part (drop (bricks_in d) hs) ds

abbrev pub Somewhere : (Option Heading → Declaration → Type 0) → List Heading → List Declaration → Type 0
Somewhere P hs [] = ⊥
Somewhere P hs (d ∷ ds) = P (first hs) d ⊎ Somewhere P (drop (bricks_in d) hs) ds

-- ---- what is declared

module _ (ds : List Declaration) where
  -- In the modes of fields and bricks the names of MODEs are seen, whether these are fit or not.
  abbrev pub modes_seen : Names
  modes_seen = seen (mode_names (scope ds))

  abbrev pub records : Table
  records = table modes_seen ds

  abbrev pub headings : List Heading
  headings = bricks modes_seen ds

-- ---- the strings of a module, in the order of their items

-- found so far, and then in a declaration
abbrev pub texts_in : List RecordDef → Option Heading → Declaration → Texts → Texts
texts_in rs h (declares.Data d) found = found ++ brick_texts rs d.lines (items_in h)
texts_in rs h (declares.Procedure p) found = in_body p.body found
texts_in rs h _ found = found

abbrev pub texts_from : List RecordDef → Texts → List Heading → List Declaration → Texts
texts_from rs found hs [] = found
texts_from rs found hs (d ∷ ds) = texts_from rs (texts_in rs (first hs) d found) (drop (bricks_in d) hs) ds

-- ---- bricks

abbrev pub nothing : Filling
nothing = record { body = None; starts = [] }

abbrev pub or_none : Option (List Field) → List Field
or_none None = []
or_none (Some fs) = fs

-- Where a heading is unfit there is no brick: a stack of no words stands for it.
abbrev pub sort_by : Sort → Filling → BrickSort
sort_by (sort.Procedure (given.Mode m)) f = brick_sort.Proc m f.body
sort_by (sort.Procedure given.Unknown) f = brick_sort.Stack 0
sort_by (sort.Items ps) f = brick_sort.Data (or_none (all_fields ps)) f.starts
sort_by (sort.Stack n) f = brick_sort.Stack n

abbrev pub brick_by : Heading → Filling → Brick
brick_by h f = record { kind = h.kind; name = h.name; sort = sort_by h.sort f }

abbrev pub filled : List Heading → List Filling → List Brick
filled [] fs = []
filled (h ∷ hs) [] = []
filled (h ∷ hs) (f ∷ fs) = brick_by h f ∷ filled hs fs

-- where names stand for this
module _ (s : Sight) where
  -- what the bricks of a declaration hold, of which this is the first
  abbrev pub fillings_in : Option Heading → Declaration → List Filling
  fillings_in h (declares.Data d) = record { body = None; starts = brick_starts s d.lines (items_in h) } ∷ []
  fillings_in h (declares.Procedure p) = record { body = Some (procedure s p); starts = [] } ∷ []
  fillings_in h d = replicate (bricks_in d) nothing

-- ---- the whole

module _ (ds : List Declaration) where
  abbrev pub texts : Texts
  texts = texts_from (records ds).records [] (headings ds) ds

  -- what a declaration sees
  abbrev pub sight : Sight
  sight = record {
    records = (records ds).records;
    strings = map (λ t. t.0) texts;
    levels = module_names (headings ds) (scope ds) ∷ [];
  }

  abbrev pub fillings : List Filling
  fillings = gathered (fillings_in sight) (headings ds) ds

  abbrev pub tree_bricks : List Brick
  tree_bricks = filled (headings ds) fillings

abbrev pub tree : Module → ModuleParts
tree m = record {
  title = m.title;
  modes = record { records = (records m.declarations).records };
  bricks = tree_bricks m.declarations;
  strings = map (λ t. t.1) (texts m.declarations);
}
