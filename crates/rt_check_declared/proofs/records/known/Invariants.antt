use Rattle.std.proofs.Common.{◌≡◌, ◌++◌, drop}
use Rattle.rt_check_declared.specs.Heads.{all_known}
use Rattle.rt_check_declared.proofs.records.known.Given as goal

abbrev pub invariant-loop-head : goal.invariant-loop-head
invariant-loop-head l = l.all ++ all_known (drop l.head-index l.heads) ≡ all_known l.heads
