-- A data brick of the module: its starts, or the faults that stand in it.
use Rattle.std.specs.Prelude.{◌≡◌, List, []}
use Rattle.rt_bricks.specs.declared.tree.DataLine.{DataLine}
use Rattle.rt_check_declared.specs.declared.parts.Part.{Part}
use Rattle.rt_check_declared.specs.Totals.{LargeFault}
use Rattle.rt_tree_nodes.specs.declared.brick.DataStart.{DataStart}
use Rattle.rt_check_faults.specs.declared.fault.CheckFault.{CheckFault}
use Rattle.rt_exprs.specs.Sights.{Sight}
use Rattle.rt_sizes.specs.Sizes.{Table}
use Rattle.rt_check_declared.specs.Verdicts.{IsIn}
use Rattle.rt_check_module.specs.Items.{brick_faults, brick_starts}

module _ (t : Table) (s : Sight) (ls : List DataLine) (ps : List Part) where
  -- A fault stands in an item. Where none does the brick is judged as a whole, and may be too large.
  pub data BrickFault : CheckFault → Type 0 where
    in_items : {g : CheckFault} → IsIn g (brick_faults s ls ps) → BrickFault g
    in_whole : {g : CheckFault} → brick_faults s ls ps ≡ [] → LargeFault t ps g → BrickFault g

  -- these are the starts, and no fault stands
  pub record AreStarts (ss : List DataStart) : Type 0 where
    pub no_fault : (g : CheckFault) → BrickFault g → ⊥
    pub are : ss ≡ brick_starts s ls ps
