-- The faults that stand in a module.
use Rattle.std.specs.Prelude.{List, Option}
use Rattle.rt_bricks.specs.declared.tree.Declaration.{Declaration}
use Rattle.rt_bricks.specs.declared.tree.Declaration.TheVariants as declares
use Rattle.rt_check_faults.specs.declared.fault.CheckFault.{CheckFault}
use Rattle.rt_sizes.specs.Sizes.{Table}
use Rattle.rt_check_declared.specs.Verdicts.{IsIn}
use Rattle.rt_exprs.specs.Sights.{Sight}
use Rattle.rt_check_bodies.specs.Procedures.{faults}
use Rattle.rt_check_declared.specs.Names.{name_faults}
use Rattle.rt_check_declared.specs.Records.{Stands as StandsInModes}
use Rattle.rt_check_declared.specs.declared.bricks.Heading.{Heading}
use Rattle.rt_check_declared.specs.Bricks.{brick_faults}
use Rattle.rt_check_declared.specs.Totals.{LargeFault}
use Rattle.rt_check_module.specs.Bricks.{BrickFault}
use Rattle.rt_check_module.specs.Tree.{items_in, Somewhere, modes_seen, records, headings, sight}

module _ (s : Sight) where
  -- a fault stands in what a declaration's brick holds, or in it as a whole
  abbrev pub Inside : Table → CheckFault → Option Heading → Declaration → Type 0
  Inside t g h (declares.Data d) = BrickFault t s d.lines (items_in h) g
  Inside t g h (declares.ImportedData d) = LargeFault t (items_in h) g
  Inside t g h (declares.Procedure p) = IsIn g (faults s p)
  Inside t g h _ = ⊥

module _ (ds : List Declaration) where
  -- a fault stands somewhere in the module
  pub data Stands : CheckFault → Type 0 where
    in_names : {g : CheckFault} → IsIn g (name_faults ds) → Stands g
    in_modes : {g : CheckFault} → StandsInModes (modes_seen ds) ds g → Stands g
    in_bricks : {g : CheckFault} → IsIn g (brick_faults (modes_seen ds) ds) → Stands g
    inside : {g : CheckFault} → Somewhere (Inside (sight ds) (records ds) g) (headings ds) ds → Stands g
