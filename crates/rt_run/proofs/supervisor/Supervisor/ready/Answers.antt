use Rattle.std.proofs.Common.{ℕ, List, sym, subst, arith}
use Rattle.rt_rules.specs.Roster.{Roster}
use Rattle.rt_run.specs.Queue.{IsQueue}
use Rattle.rt_run.specs.Queues.{queue_of}
use Rattle.rt_run.proofs.Heads.{queue_is}
use Rattle.rt_run.proofs.supervisor.Supervisor.ready.Goals as goal

pub returns : goal.returns
returns c =
    subst (λ (xs : List ℕ). IsQueue c.args.self.now c.args.priority xs) (sym c.tasks.ensures)
    (subst (λ (r : Roster). IsQueue r c.args.priority (queue_of c.self.inside.queues c.args.priority)) c.self.view_is
    (queue_is c.self.inside.rules c.self.inside.queues c.args.priority c.self.invariant (omega arith)))
