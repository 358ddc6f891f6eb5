use Rattle.std.proofs.Common.{Option, subst}
use Rattle.rt_check_declared.specs.Totals.{LargeFault}
use Rattle.rt_check_faults.specs.declared.fault.CheckFault.{CheckFault}
use Rattle.rt_check_declared.specs.Records.{Counts}
use Rattle.rt_check_module.proofs.Judged.{item_counts, whole_counts, none_in_brick, are_starts}
use Rattle.rt_check_module.proofs.items.read_starts.Goals as goal

pub returns-in-Some-clause-fault : goal.returns-in-Some-clause-fault
returns-in-Some-clause-fault c t sizes = item_counts t c.args.scope.now c.args.lines.now c.args.parts.now c.in_ok-fault.field-0 c.in-Some.fault c.in_ok-fault.ensures c.in-Some.is

pub returns-in-Some-2-clause-fault : goal.returns-in-Some-2-clause-fault
returns-in-Some-2-clause-fault c t sizes =
    whole_counts t c.args.scope.now c.args.lines.now c.args.parts.now c.in_ok-fault.field-0 c.in-Some-2.fault c.in_ok-fault.ensures c.in-None.is
    (subst (λ (o : Option CheckFault). Counts (LargeFault t c.args.parts.now) o) c.in-Some-2.is (c.in_ok-fault-in-None.ensures t sizes))

pub returns-in_ok-made-in-None-2-clause-starts : goal.returns-in_ok-made-in-None-2-clause-starts
returns-in_ok-made-in-None-2-clause-starts c t sizes is_fit =
    are_starts t c.args.scope.now c.args.lines.now c.args.parts.now c.in_ok-fault.field-0 c.in_ok-made-in-None-2.made c.in_ok-fault.ensures c.in-None.is
    (subst (λ (o : Option CheckFault). Counts (LargeFault t c.args.parts.now) o) c.in-None-2.is (c.in_ok-fault-in-None.ensures t sizes)) (c.in_ok-made-in-None-2.ensures is_fit)

pub returns-in_ok-made-in-None-2-clause-fit : goal.returns-in_ok-made-in-None-2-clause-fit
returns-in_ok-made-in-None-2-clause-fit c t sizes =
    none_in_brick t c.args.scope.now c.args.lines.now c.args.parts.now c.in_ok-fault.field-0 c.in_ok-fault.ensures c.in-None.is
    (subst (λ (o : Option CheckFault). Counts (LargeFault t c.args.parts.now) o) c.in-None-2.is (c.in_ok-fault-in-None.ensures t sizes))
