-- The faults that stand outside of what bricks hold.
use Rattle.std.specs.Prelude.{◌⊎◌, List}
use Rattle.rt_bricks.specs.declared.tree.Declaration.{Declaration}
use Rattle.rt_check_faults.specs.declared.fault.CheckFault.{CheckFault}
use Rattle.rt_check_declared.specs.Names.{name_faults}
use Rattle.rt_check_declared.specs.Bricks.{brick_faults}
use Rattle.rt_check_declared.specs.Records.{Stands as StandsInModes}
use Rattle.rt_check_declared.specs.Verdicts.{IsIn}
use Rattle.rt_check_module.specs.Tree.{modes_seen}

-- a fault stands in the names of a module, in a MODE, or in the mode of a brick
abbrev pub StandsOutside : List Declaration → CheckFault → Type 0
StandsOutside ds g = (IsIn g (name_faults ds) ⊎ StandsInModes (modes_seen ds) ds g) ⊎ IsIn g (brick_faults (modes_seen ds) ds)
