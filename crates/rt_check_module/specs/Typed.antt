-- The typed tree of a module in which no fault stands.
use Rattle.std.specs.Prelude.{◌≡◌}
use Rattle.rt_bricks.specs.declared.tree.Module.{Module}
use Rattle.rt_tree_nodes.specs.declared.brick.ModuleParts.{ModuleParts}
use Rattle.rt_check_faults.specs.declared.fault.CheckFault.{CheckFault}
use Rattle.rt_check_module.specs.Faults.{Stands}
use Rattle.rt_check_module.specs.Tree.{tree}

-- t is the typed tree of module m, in which no fault stands
pub record IsTyped (m : Module) (t : ModuleParts) : Type 0 where
  pub fit : (g : CheckFault) → Stands m.declarations g → ⊥
  pub is : t ≡ tree m
