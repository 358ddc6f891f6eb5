-- The starts that are made for a data brick in which no fault stands fit its items, as the typed tree asks.
use Rattle.std.specs.Prelude.{◌≡◌, ℕ, ◌+◌, ◌<◌, true, List, [], ◌∷◌, length, Some, slice_get}
use Rattle.std.specs.List.{AllByRecursion}
use Rattle.rt_bricks.specs.declared.tree.DataLine.{DataLine}
use Rattle.rt_bricks_laws.specs.Strings.{in_lines}
use Rattle.rt_check_declared.specs.declared.parts.Part.{Part}
use Rattle.rt_check_declared.specs.Parts.{item_parts, item_faults}
use Rattle.rt_check_declared.specs.Totals.{all_fields}
use Rattle.rt_modes.specs.declared.mode.Field.{Field}
use Rattle.rt_tree_nodes.specs.declared.brick.DataStart.{DataStart}
use Rattle.rt_tree_nodes.specs.Scopes.{Scope}
use Rattle.rt_exprs.specs.Sights.{Sight}
use Rattle.rt_items.specs.Ranges.{IsByte}
use Rattle.rt_sizes.specs.Sizes.{Table}
use Rattle.rt_check_module.specs.Bricks.{AreStarts}
use Rattle.rt_check_module.specs.Items.{brick_faults, brick_starts}
use Rattle.rt_check_module.specs.Strings.{is_in, brick_texts}
use Rattle.rt_syntax.specs.Strings.{Texts}
use Rattle.rt_tree.specs.Modules.{items_start}
use Rattle.rt_exprs.specs.declared.scope.Meaning.{Meaning}
use Rattle.rt_exprs.specs.Names.{find}
use Rattle.rt_modes.specs.declared.mode.RecordDef.{RecordDef}
use Rattle.rt_sizes.specs.Containing.{held, HaveOne, Contains, fields_of}
use Rattle.rt_check_declared.specs.declared.parts.Given.{Given}
use Rattle.rt_check_declared.specs.declared.parts.Given.TheVariants as given
use Rattle.rt_check_bodies_laws.specs.Held.{IsKnown}
use Rattle.rt_exprs_laws.specs.Agreeing.{Agree, HasItems, IsItem}
use Rattle.rt_check_declared.specs.Written.{Names as Named}

-- ---- what the law needs

-- strings are bytes
abbrev pub AreBytes : Texts → Type 0
AreBytes ts = AllByRecursion (λ t. AllByRecursion IsByte t.1) ts

-- each begins at one of these items
abbrev pub BeginAt : List ℕ → Texts → Type 0
BeginAt items ts = AllByRecursion (λ t. is_in items t.0 ≡ true) ts

-- how many items stand in lines
abbrev pub items_in : List DataLine → ℕ
items_in [] = 0
items_in (l ∷ ls) = length l.items + items_in ls

-- No record contains itself; the modes of all fields may be those of items, and the records that they hold are there.
pub record AreRecordsWhole (records : List RecordDef) : Type 0 where
  pub apart : (k : ℕ) → Contains records k k → ⊥
  pub items : (r : ℕ) (d : RecordDef) → slice_get records r ≡ Some d → HasItems d
  pub below : (k s : ℕ) → HaveOne (fields_of records k) s → s < length records

-- The mode of an item may be one, and the record that it holds is there.
abbrev pub GivenStands : List RecordDef → Given → Type 0
GivenStands records (given.Mode m) = IsItem m × ((r : ℕ) → held m ≡ Some r → r < length records)
GivenStands records given.Unknown = Unit {0}

-- Of a data brick with these lines and parts, where names stand for what is there in the tree.
pub record IsReady (s : Sight) (c : Scope) (ls : List DataLine) (ps : List Part) : Type 0 where
  pub agree : Agree s c
  -- what names stand for can be known, and so can the modes of all fields; the modes of the items may stand
  pub known : (name : List ℕ) (is : Meaning) → find s name ≡ Some is → IsKnown is
  pub whole : AreRecordsWhole s.records
  pub stand : AllByRecursion (λ p. GivenStands s.records p.has) ps
  -- each item has a part
  pub parts : length ps ≡ items_in ls
  -- all strings of the starts are bytes, and those that are strings of the module are among its strings
  pub bytes : AreBytes (in_lines ls [])
  pub strings : BeginAt s.strings (brick_texts s.records ls ps)

-- ---- the law

-- the starts of items in which no fault stands
abbrev pub StartsFit : Type 0
StartsFit = (s : Sight) (c : Scope) (ls : List DataLine) (ps : List Part) (fs : List Field) → IsReady s c ls ps → all_fields ps ≡ Some fs → brick_faults s ls ps ≡ [] → items_start c (brick_starts s ls ps) fs ≡ true

-- the starts that are read
abbrev pub ReadStartsFit : Type 0
ReadStartsFit = (t : Table) (s : Sight) (c : Scope) (ls : List DataLine) (ps : List Part) (fs : List Field) (ss : List DataStart) → IsReady s c ls ps → all_fields ps ≡ Some fs → AreStarts t s ls ps ss → items_start c ss fs ≡ true

-- where no fault stands in the modes of a brick's lines, each item is declared with a mode
abbrev pub AllAreFields : Type 0
AllAreFields = (names : Named) (ls : List DataLine) → item_faults names ls ≡ [] → (fs : List Field) × (all_fields (item_parts names ls) ≡ Some fs)

-- the parts of a brick's lines are as many as its items
abbrev pub EachItemHasAPart : Type 0
EachItemHasAPart = (names : Named) (ls : List DataLine) → length (item_parts names ls) ≡ items_in ls
