use Rattle.rt_check_module.proofs.Judged.{item_step}
use Rattle.rt_check_module.proofs.items.judge_items.Goals as goal

pub loop-item-preserved : goal.loop-item-preserved
loop-item-preserved c =
    item_step c.args.scope.now c.args.items.now c.loop-item.item-index c.item-item.result c.loop-item.left.now c.in-Some.rest.now c.in-Some.part.now c.loop-item.faults c.judge_item.new.faults _ c.loop-item-test.true c.item-item.is
    c.in-Some.ensures c.judge_item.ensures c.loop-item.invariant
