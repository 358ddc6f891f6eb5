use Rattle.std.proofs.Common.{◌≡◌}
use Rattle.rt_run.specs.Queues.{HasQueues}
use Rattle.rt_run.proofs.moves.join_from.Given as goal

abbrev pub invariant-loop-stamp : goal.invariant-loop-stamp
invariant-loop-stamp l = (l.stamp-end ≡ l.rules.stamp) × HasQueues l.rules l.stamp l.queues
