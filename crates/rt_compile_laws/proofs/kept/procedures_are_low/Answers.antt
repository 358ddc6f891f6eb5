use Rattle.rt_compile_laws.proofs.Keeping.{procedures_are_low}
use Rattle.rt_compile_laws.proofs.kept.procedures_are_low.Goals as goal

pub returns : goal.returns
returns c = procedures_are_low (record {
  weighs = c.code_is_within.ensures.code;
  marked = c.marks_are_small.ensures.one_each;
  small = c.marks_are_small.ensures.small;
  rise = c.addresses_are_filled.ensures.rise;
}) c.trees_promise.ensures
