use Rattle.std.proofs.Common.{Result, sym, ◌∙◌, subst}
use Rattle.rt_exprs.specs.declared.operand.Operand.{Operand}
use Rattle.rt_exprs.specs.Operands.{judged_of}
use Rattle.rt_check_faults.specs.declared.fault.CheckFault.{CheckFault}
use Rattle.rt_check_faults.specs.Outcomes.{Gives}
use Rattle.rt_exprs.proofs.Joins.{dyadic_err}
use Rattle.rt_exprs.proofs.operators.dyadic.Goals as goal

pub returns-in-Err : goal.returns-in-Err
returns-in-Err c l r h k = rw c.sooner.ensures (dyadic_err c.args.at c.args.op c.in-Err.fault c.right_alone.result l r (sym c.is_of_int.ensures ∙ c.if-is_of_int.false) (subst (λ (x : Result Operand CheckFault). Gives judged_of x l) c.in-Err.is h) (c.right_alone.ensures r k))
