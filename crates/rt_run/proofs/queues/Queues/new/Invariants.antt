use Rattle.std.proofs.Common.{◌≡◌, ◌-◌, ◌≤◌, [], replicate, vec_len}
use Rattle.rt_run.proofs.queues.Queues.new.Given as goal

-- the queues so far are empty
abbrev pub invariant-loop-queues : goal.invariant-loop-queues
invariant-loop-queues l = (l.queues.items ≡ replicate (vec_len l.queues) []) × (vec_len l.queues ≤ 256)

abbrev pub decreases-loop-queues : goal.decreases-loop-queues
decreases-loop-queues l = 256 - vec_len l.queues
