use Rattle.rt_check_declared.proofs.RecordSteps.{places_step}
use Rattle.rt_check_declared.proofs.records.places.Goals as goal

pub loop-line-preserved : goal.loop-line-preserved
loop-line-preserved c =
    places_step c.loop-line.ats c.add_places.new.ats c.args.lines.now c.loop-line.line-index c.line-item.result c.as_slice.result.now c.loop-line-test.true c.line-item.is c.as_slice.ensures c.in_ok-add_places.ensures c.loop-line.invariant
