-- The records of a module in which no fault stands can be told apart by their names, and the items of its data are fields.
use Rattle.std.specs.Prelude.{◌≡◌, ℕ, false, List, Some, slice_get}
use Rattle.std.specs.List.{AllByRecursion}
use Rattle.rt_pieces.specs.declared.item.Item.{Item}
use Rattle.rt_modes.specs.declared.mode.Field.{Field}
use Rattle.rt_tree_nodes.specs.declared.brick.Brick.{Brick}
use Rattle.rt_tree_nodes.specs.declared.brick.BrickSort.TheVariants as sort
use Rattle.rt_tree_nodes.specs.declared.brick.DataStart.{DataStart}
use Rattle.rt_tree_nodes.specs.Scopes.{is_svc}
use Rattle.rt_bricks.specs.declared.tree.Module.{Module}
use Rattle.rt_tree.specs.Opened.{IsField, IsTable}
use Rattle.rt_check_module.specs.Tree.{tree}
use Rattle.rt_check_module_laws.specs.Modules.{IsText, IsFaultless}
use Rattle.rt_bricks_laws.specs.Spelled.{IsSpelled}

-- The names of records and fields are words, none of them a mode's; no two records have one name; the modes of fields may
-- stand.
abbrev pub RecordsAreTables : Type 0
RecordsAreTables = (items : List Item) (m : Module) → IsText items m → AllByRecursion IsSpelled items → IsFaultless m.declarations → IsTable (tree m).modes

-- So it is with the names and modes of the items of a data brick, but for one that is supplied, where LABEL may stand.
abbrev pub DataItemsAreFields : Type 0
DataItemsAreFields = (items : List Item) (m : Module) → IsText items m → AllByRecursion IsSpelled items → IsFaultless m.declarations
    → (k : ℕ) (d : Brick) (fs : List Field) (ss : List DataStart) → slice_get (tree m).bricks k ≡ Some d → d.sort ≡ sort.Data fs ss → is_svc d.kind ≡ false → AllByRecursion (IsField (tree m).modes) fs
