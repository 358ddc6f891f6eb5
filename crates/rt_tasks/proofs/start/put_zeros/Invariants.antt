use Rattle.std.proofs.Common.{◌≡◌, ◌-◌, ◌++◌, replicate}
use Rattle.rt_tasks.proofs.start.put_zeros.Given as goal

abbrev pub invariant-loop-i : goal.invariant-loop-i
invariant-loop-i l = l.out.items ++ replicate (l.count - l._i) 0 ≡ l.initial.out.items ++ replicate l.count 0
