-- What equal full modes of two data bricks say of their items.
use Rattle.std.specs.Prelude.{◌≡◌, List}
use Rattle.std.specs.List.{AllByRecursion}
use Rattle.rt_modes.specs.declared.mode.Field.{Field}
use Rattle.rt_modes.specs.declared.mode.ModeTable.{ModeTable}
use Rattle.rt_modes.specs.FullMode.{FullData}
use Rattle.rt_tree.specs.Opened.{IsTable, IsField, FieldsSame}

-- Where the items of two data bricks of two modules have names and may stand, and the bricks have one full mode, they have as
-- many items, of the same names and full modes.
abbrev pub FullDataOpen : Type 0
FullDataOpen = (t u : ModeTable) (fs gs : List Field) → IsTable t → IsTable u → AllByRecursion (IsField t) fs → AllByRecursion (IsField u) gs → FullData t fs ≡ FullData u gs → FieldsSame t u fs gs
