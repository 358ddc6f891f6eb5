use Rattle.rt_tasks.proofs.Blocks.{IsOnTheWay}
use Rattle.rt_tasks.proofs.start.block_address.Given as goal

abbrev pub invariant-loop-i : goal.invariant-loop-i
invariant-loop-i l = IsOnTheWay l.tasks l.n l.fn.from l.i l.at
