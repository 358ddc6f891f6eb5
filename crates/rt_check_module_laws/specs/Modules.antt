-- The tree of a module in which no fault stands is one of which every node fits.
use Rattle.std.specs.Prelude.{◌≡◌, ◌<◌, true, List, length}
use Rattle.std.specs.List.{list_all, AllByRecursion}
use Rattle.rt_bricks.specs.declared.tree.Declaration.{Declaration}
use Rattle.rt_bricks.specs.declared.tree.Module.{Module}
use Rattle.rt_bricks.specs.Derives.{Derives}
use Rattle.rt_tree_nodes.specs.declared.brick.Local.{Local}
use Rattle.rt_tree_nodes.specs.Scopes.{scope_of, with_locals}
use Rattle.rt_check_faults.specs.declared.fault.CheckFault.{CheckFault}
use Rattle.rt_pieces.specs.declared.item.Item.{Item}
use Rattle.rt_items.specs.Ranges.{InRange}
use Rattle.rt_tree.specs.Modules.{record_stands, every_node_fits}
use Rattle.rt_tree.specs.Statements.{Sight as Seen}
use Rattle.rt_tree.specs.Within.{Within}
use Rattle.rt_check_bodies_laws.specs.Held.{Holds}
use Rattle.rt_check_module.specs.Tree.{records, sight, tree}
use Rattle.rt_check_module.specs.Faults.{Stands}

-- The text of a module: fewer than 65,536 items, each in range, and the module that they derive.
pub record IsText (items : List Item) (m : Module) : Type 0 where
  pub few : length items < 65536
  pub range : AllByRecursion InRange items
  pub derived : Derives items m

-- No fault stands in the module.
abbrev pub IsFaultless : List Declaration → Type 0
IsFaultless ds = (g : CheckFault) → Stands ds g → ⊥

-- ---- records

-- The modes of all fields are known, and may stand.
abbrev pub RecordsFit : Type 0
RecordsFit = (items : List Item) (m : Module) → IsText items m → IsFaultless m.declarations → list_all (record_stands (length (records m.declarations).records)) (records m.declarations).records ≡ true

-- ---- names

-- What a procedure sees outside of itself is there in the tree, whatever its locals are.
abbrev pub NamesHold : Type 0
NamesHold = (items : List Item) (m : Module) (ls : List Local) (seen : Seen) → IsText items m → IsFaultless m.declarations
    → Holds (with_locals (scope_of (tree m)) ls) (sight m.declarations) seen

-- ---- the whole

abbrev pub ModulesFit : Type 0
ModulesFit = (items : List Item) (m : Module) → IsText items m → IsFaultless m.declarations → every_node_fits (tree m) ≡ true

-- and each of its procedures is within what a procedure may take
abbrev pub ModulesStayWithin : Type 0
ModulesStayWithin = (items : List Item) (m : Module) → IsText items m → IsFaultless m.declarations → Within (tree m)
