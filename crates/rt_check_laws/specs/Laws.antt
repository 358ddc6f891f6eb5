-- What each module is answered, and what equal full modes say in one module.
use Rattle.std.specs.Prelude.{◌≡◌, ◌⊎◌, false, List}
use Rattle.std.specs.List.{AllByRecursion}
use Rattle.rt_pieces.specs.declared.item.Item.{Item}
use Rattle.rt_bricks.specs.declared.tree.Declaration.{Declaration}
use Rattle.rt_bricks.specs.declared.tree.Module.{Module}
use Rattle.rt_modes.specs.declared.mode.Mode.{Mode}
use Rattle.rt_modes.specs.FullMode.{FullMode}
use Rattle.rt_tree.specs.FullModes.{MayStand}
use Rattle.rt_tree_nodes.specs.declared.brick.ModuleParts.{ModuleParts}
use Rattle.rt_check_faults.specs.declared.fault.CheckFault.{CheckFault}
use Rattle.rt_check_faults.specs.Outcomes.{is_unknown, item_of, number_of}
use Rattle.rt_bricks_laws.specs.Spelled.{IsSpelled}
use Rattle.rt_check_module.specs.Faults.{Stands}
use Rattle.rt_check_module.specs.Typed.{IsTyped}
use Rattle.rt_check_module_laws.specs.Modules.{IsText}
use Rattle.rt_check.specs.Whole.{Refuses}

-- A module has its typed tree, or a fault that counts.
abbrev pub EachModule : Type 0
EachModule = (m : Module) → ((t : ModuleParts) × IsTyped m t) ⊎ ((g : CheckFault) × Refuses m.declarations g)

-- Two faults that count stand at one item and have one number.
abbrev pub OneFault : Type 0
OneFault = (ds : List Declaration) (g h : CheckFault) → Refuses ds g → Refuses ds h → (item_of g ≡ item_of h) × (number_of g ≡ number_of h)

-- What stands in a module is a fault, and never what can't be known.
abbrev pub FaultsAreKnown : Type 0
FaultsAreKnown = (ds : List Declaration) (g : CheckFault) → Stands ds g → is_unknown g ≡ false

-- Two modes that may stand in the module of a text, in which no fault stands, are one mode just where their full modes are one.
abbrev pub FullModesAreModes : Type 0
FullModesAreModes = (items : List Item) (m : Module) (p : ModuleParts) (a b : Mode) → IsText items m → AllByRecursion IsSpelled items → IsTyped m p → MayStand p.modes a → MayStand p.modes b
    → (FullMode p.modes a ≡ FullMode p.modes b → a ≡ b) × (a ≡ b → FullMode p.modes a ≡ FullMode p.modes b)
