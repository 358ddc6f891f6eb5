use Rattle.std.proofs.Common.{sym, subst}
use Rattle.std.specs.Prelude.{IfOk}
use Rattle.std.specs.Option.{option_copied}
use Rattle.rt_bricks.specs.declared.tree.Declaration.{Declaration}
use Rattle.rt_check_faults.specs.declared.fault.CheckFault.{CheckFault}
use Rattle.rt_check_module.specs.Faults.{Inside}
use Rattle.rt_check.proofs.contents.filling_of.Goals as goal

pub returns-in-Procedure-clause-fit : goal.returns-in-Procedure-clause-fit
returns-in-Procedure-clause-fit c = λ t sizes.
    subst (λ (d : Declaration). IfOk c.procedure_filling.result (λ x. (g : CheckFault) → Inside c.args.names.now t g (option_copied c.args.brick) d → ⊥)) (sym c.in-Procedure.is) c.procedure_filling.ensures.fit
