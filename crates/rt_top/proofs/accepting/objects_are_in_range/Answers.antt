use Rattle.rt_object.specs.Ranges.{HasObjectRanges}
use Rattle.rt_top.proofs.Prepared.{one_more}
use Rattle.rt_top.proofs.accepting.objects_are_in_range.Goals as goal

pub loop-object-preserved : goal.loop-object-preserved
loop-object-preserved c = one_more HasObjectRanges c.args.objects.now c.loop-object.object-index c.object-item.result c.loop-object-test.true c.object-item.is c.loop-object.invariant c.parts-parts.ensures.ranges
