use Rattle.std.proofs.Common.{sym, subst}
use Rattle.rt_sizes.specs.Capped.{table}
use Rattle.rt_sizes.specs.Rings.{AreRings}
use Rattle.rt_check_declared.proofs.Joined.{none_so_far, more_so_far, all_so_far}
use Rattle.rt_check_declared.proofs.module.judge_records.Goals as goal

pub loop-head-init : goal.loop-head-init
loop-head-init c names known rs sizes hs ds = none_so_far names (table c.args.records.now known) rs c.in_ok-unfit.unfit c.in_ok-unfit.ensures

pub loop-head-preserved : goal.loop-head-preserved
loop-head-preserved c names known rs sizes hs ds =
    let rings : AreRings c.args.records.now c.as_slice.result.now = subst (AreRings c.args.records.now) (sym c.as_slice.ensures.value) c.in_ok-rings.ensures in
    more_so_far names (table c.args.records.now known) rs c.loop-head.unfit c.len-number.result c.loop-head.head-index c.judge_record-fault.result c.push.new.self c.args.records.now c.args.heads.now c.head-item.result c.len-number.ensures (c.loop-head.invariant names known rs sizes hs ds)
    c.in_ok-push.ensures.ok c.head-item.is hs ds (λ r. c.judge_record-fault.ensures names known r sizes rings)

pub returns : goal.returns
returns c names known rs sizes hs ds = all_so_far names (table c.args.records.now known) rs c.loop-head.head-index c.loop-head.unfit c.args.heads.now c.loop-head-test.false c.loop-head.auto.head-index-end hs (c.loop-head.invariant names known rs sizes hs ds)
