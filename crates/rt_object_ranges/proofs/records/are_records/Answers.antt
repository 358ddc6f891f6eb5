use Rattle.std.proofs.Common.{arith}
use Rattle.rt_object_ranges.proofs.Whole.{tells_records}
use Rattle.rt_object_ranges.proofs.records.are_records.Goals as goal

pub returns : goal.returns
returns c = tells_records c.none_is_bad.result c.args.records.now (omega arith) (c.in_ok-is_each_record.ensures.0 c.if-not-branch.false) (c.in_ok-records_differ.ensures.0 c.if-not-branch-2.false) c.none_is_bad.ensures
