use Rattle.rt_exprs.proofs.Indexing.{one_more_record}
use Rattle.rt_exprs.proofs.records.all_numbers.Goals as goal

pub loop-definition-preserved : goal.loop-definition-preserved
loop-definition-preserved c = one_more_record c.args.records.now c.loop-definition.definition-index c.definition-item.result c.as_slice.result.now c.loop-definition.maps c.push.new.self c.in_ok-field_numbers.field-0 c.loop-definition.invariant c.as_slice.ensures c.in_ok-field_numbers.ensures c.in_ok-push.ensures.ok c.loop-definition-test.true c.definition-item.is
