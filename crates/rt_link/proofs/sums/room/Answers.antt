use Rattle.std.proofs.Common.{arith}
use Rattle.rt_link.proofs.Summed.{support_is}
use Rattle.rt_link.proofs.sums.room.Goals as goal

pub overflow_add-result : goal.overflow_add-result
overflow_add-result c = omega (arith, support_is)

pub overflow_add-result-2 : goal.overflow_add-result-2
overflow_add-result-2 c = omega (arith, support_is)

pub overflow_add-result-3 : goal.overflow_add-result-3
overflow_add-result-3 c = omega (arith, support_is)
