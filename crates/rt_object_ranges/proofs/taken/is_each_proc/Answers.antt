use Rattle.std.proofs.Common.{arith}
use Rattle.rt_object.specs.Ranges.{IsProcNumber}
use Rattle.rt_object_ranges.proofs.Whole.{each_next}
use Rattle.rt_object_ranges.proofs.taken.is_each_proc.Goals as goal

pub loop-number-preserved : goal.loop-number-preserved
loop-number-preserved c = each_next (IsProcNumber c.args.bricks.now) c.args.numbers.now c.loop-number.number-index 0 (omega arith) (c.is_proc_number.ensures.0 c.if-not-is_proc_number.false) c.loop-number.invariant
