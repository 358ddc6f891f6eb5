use Rattle.rt_check_declared.proofs.Large.{large_item_counts}
use Rattle.rt_check_declared.proofs.totals.large_item.Goals as goal

pub returns : goal.returns
returns c t sizes =
    large_item_counts t c.args.parts.now c.in_ok-fields.fields c.passing_item-passing.result c.fault_at-fault.result c.in_ok-fields.ensures (c.passing_item-passing.ensures t sizes) c.fault_at-fault.ensures
