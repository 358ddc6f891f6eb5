use Rattle.std.proofs.Common.{arith}
use Rattle.rt_run.proofs.Joining.{queues_none, low_start}
use Rattle.rt_run.proofs.supervisor.Supervisor.open.Goals as goal

pub join_from-requires-clause-queued : goal.join_from-requires-clause-queued
join_from-requires-clause-queued c =
    queues_none c.in_ok-rules.rules c.in_ok-queues.queues c.in_ok-rules.ensures.ranges
    (low_start c.args.priorities.now c.in_ok-rules.rules c.in_ok-rules.ensures.start (λ k h. let fits = c.type_inv.priorities k in omega arith))
    c.in_ok-queues.ensures
