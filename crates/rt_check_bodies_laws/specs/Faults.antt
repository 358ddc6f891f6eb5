-- What stands in a procedure is a fault.
use Rattle.std.specs.Prelude.{◌≡◌, false}
use Rattle.rt_bricks.specs.declared.tree.ProcedureBrick.{ProcedureBrick}
use Rattle.rt_check_faults.specs.declared.fault.CheckFault.{CheckFault}
use Rattle.rt_check_faults.specs.Outcomes.{is_unknown}
use Rattle.rt_exprs.specs.Sights.{Sight}
use Rattle.rt_check_bodies.specs.Procedures.{Stands}

-- What stands in a procedure is never what can't be known, whatever is seen where it stands.
abbrev pub FaultsAreKnown : Type 0
FaultsAreKnown = (s : Sight) (b : ProcedureBrick) (g : CheckFault) → Stands s b g → is_unknown g ≡ false
