use Rattle.std.proofs.Common.{◌≡◌, take}
use Rattle.rt_work_state.proofs.copies.copy_data.Given as goal

abbrev pub invariant-loop-datum : goal.invariant-loop-datum
invariant-loop-datum l = l.copy ≡ take l.datum-index l.data
