use Rattle.std.proofs.Common.{◌∙◌}
use Rattle.rt_check_module.proofs.StartLevels.{at_first}
use Rattle.rt_check_module.proofs.defaults.records_with_default.Goals as goal

pub judge_in_order-requires : goal.judge_in_order-requires
judge_in_order-requires c = at_first c.as_slice-records.result.now c.as_mut_slice.result.now (c.as_mut_slice.ensures.value ∙ c.in_ok-known.ensures)
