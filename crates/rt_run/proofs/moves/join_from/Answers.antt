use Rattle.std.proofs.Common.{ℕ, subst, arith}
use Rattle.rt_run.specs.Queues.{HasQueues}
use Rattle.rt_run.proofs.moves.join_from.Goals as goal

pub returns : goal.returns
returns c =
    subst (λ (n : ℕ). HasQueues c.args.rules.now n c.loop-stamp.queues) (omega arith) c.loop-stamp.invariant.1
