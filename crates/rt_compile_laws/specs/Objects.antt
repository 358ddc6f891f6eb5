-- Which typed trees have an object.
use Rattle.std.specs.Prelude.{◌≡◌, ◌⊎◌, ℕ, true, List}
use Rattle.rt_sizes.specs.Containing.{Contains}
use Rattle.rt_tree_nodes.specs.declared.brick.ModuleParts.{ModuleParts}
use Rattle.rt_tree.specs.Modules.{every_node_fits}
use Rattle.rt_tree.specs.Opened.{IsTable}
use Rattle.rt_object.specs.declared.object.ObjectParts.{ObjectParts}
use Rattle.rt_check.specs.Texts.{IsTree}
use Rattle.rt_compile.specs.Objects.{IsObjectOf, HasLongProc}

-- no record contains itself
abbrev pub HasNoRings : ModuleParts → Type 0
HasNoRings p = (k : ℕ) → Contains p.modes.records k k → ⊥

-- The tree has an object, or a procedure whose code is too long.
abbrev pub IsCompiled : ModuleParts → Type 0
IsCompiled p = ((o : ObjectParts) × IsObjectOf p o) ⊎ ((name : List ℕ) × HasLongProc p name)

-- A tree has, of which every node fits and whose records can be told apart and don't contain themselves, ..
abbrev pub FittingTreesAreCompiled : Type 0
FittingTreesAreCompiled = (p : ModuleParts) → every_node_fits p ≡ true → IsTable p.modes → HasNoRings p → IsCompiled p

-- .. and so has the tree of each text.
abbrev pub TextsAreCompiled : Type 0
TextsAreCompiled = (text : List ℕ) (p : ModuleParts) → IsTree text p → IsCompiled p
