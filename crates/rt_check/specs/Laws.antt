-- What the typed tree of a module is one of.
use Rattle.std.specs.Prelude.{◌≡◌}
use Rattle.rt_bricks.specs.declared.tree.Module.{Module}
use Rattle.rt_tree_nodes.specs.declared.brick.ModuleParts.{ModuleParts}
use Rattle.rt_check_faults.specs.declared.fault.CheckFault.{CheckFault}
use Rattle.rt_check_module.specs.Typed.{IsTyped}
use Rattle.rt_check.specs.Whole.{Refuses}

-- A module has one typed tree at most.
abbrev pub OneTree : Type 0
OneTree = (m : Module) (t u : ModuleParts) → IsTyped m t → IsTyped m u → t ≡ u

-- It has none where a fault stands that counts.
abbrev pub NoTreeWithFaults : Type 0
NoTreeWithFaults = (m : Module) (t : ModuleParts) (g : CheckFault) → IsTyped m t → Refuses m.declarations g → ⊥
