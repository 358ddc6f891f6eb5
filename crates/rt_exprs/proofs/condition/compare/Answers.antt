use Rattle.std.proofs.Common.{◌≡◌, Err, None, Option, option_map, sym, subst, ◌∙◌, ap}
use Rattle.rt_check_faults.specs.declared.fault.CheckFault.{CheckFault}
use Rattle.rt_exprs.specs.declared.operand.Wanted.{Wanted}
use Rattle.rt_check_faults.specs.Outcomes.{UnlessMemory}
use Rattle.rt_exprs.specs.Judging as spec
use Rattle.rt_exprs.specs.Operands.{judged_of, want_of}
use Rattle.rt_exprs.proofs.Joins.{compare_err, unwanted_err}
use Rattle.rt_exprs.proofs.condition.compare.Goals as goal

pub returns-in-Err : goal.returns-in-Err
returns-in-Err c =
    let l = spec.judged c.args.scope.now c.args.left.now in
    let r = spec.judged c.args.scope.now c.args.right.now in
    subst (λ (g : CheckFault). UnlessMemory g (spec.compare c.args.relation l r ≡ Err g)) (sym c.sooner.ensures) (compare_err c.args.relation c.in-Err.fault c.fit_by_itself.result l r c.in-Err.ensures c.fit_by_itself.ensures.value)

pub returns-in-None : goal.returns-in-None
returns-in-None c =
    let l = spec.judged c.args.scope.now c.args.left.now in
    let r = spec.judged c.args.scope.now c.args.right.now in
    let none : spec.compares c.args.relation (judged_of c.in-Ok.operand).found.is ≡ None = sym c.compared.ensures ∙ ap (λ (o : Option Wanted). option_map want_of o) c.in-None.is in
    subst (λ (g : CheckFault). UnlessMemory g (spec.compare c.args.relation l r ≡ Err g)) (sym c.sooner-in-None.ensures)
    (unwanted_err c.args.relation (judged_of c.in-Ok.operand) c.fit_by_itself-in-None.result l r c.in-Ok.ensures none c.fit_by_itself-in-None.ensures.value)
