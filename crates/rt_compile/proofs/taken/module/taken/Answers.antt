use Rattle.std.proofs.Common.{length}
use Rattle.rt_compile.proofs.Telling.{taken_ok}
use Rattle.rt_compile.proofs.taken.module.taken.Goals as goal

pub returns : goal.returns
returns c = taken_ok c.args.module.now (length c.args.module.now.bricks) c.in_ok-marks.marks.items c.numbers_of.result c.in_ok-marks.ensures (rw c.as_slice.ensures.value at c.numbers_of.ensures)
