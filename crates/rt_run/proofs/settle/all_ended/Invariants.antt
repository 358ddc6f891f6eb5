use Rattle.std.proofs.Common.{◌≡◌, drop}
use Rattle.rt_run.specs.Boundaries.{all_ended}
use Rattle.rt_run.proofs.settle.all_ended.Given as goal

abbrev pub invariant-loop-n : goal.invariant-loop-n
invariant-loop-n l = all_ended (drop l.n l.supervisor.tasks) ≡ all_ended l.supervisor.tasks
