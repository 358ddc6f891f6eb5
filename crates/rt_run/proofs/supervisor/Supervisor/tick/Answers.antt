use Rattle.std.proofs.Common.{◌≡◌, ℕ, ◌≤◌, Some, None, sym, subst}
use Rattle.rt_rules.specs.Roster.{Roster}
use Rattle.rt_rules.specs.Rules.{running}
use Rattle.rt_run.specs.Queues.{HasQueues, Leaves}
use Rattle.rt_run.proofs.Leaving.{idle_queues, idle_later}
use Rattle.rt_run.proofs.Heads.{leaves_tick}
use Rattle.rt_run.proofs.supervisor.Supervisor.tick.Goals as goal

pub follow-requires : goal.follow-requires
follow-requires c =
    subst (λ (n : ℕ). Leaves c.in-Some.task n c.tick_of.new.self c.self.inside.queues) (sym c.next_stamp-from.ensures)
    (leaves_tick c.self.inside.rules c.in-Some.task c.tick_of.new.self c.self.inside.queues c.self.invariant
    (subst (λ (r : Roster). running r ≡ Some c.in-Some.task) (sym c.self.view_is) (sym c.in-Some.ensures.value)) c.tick_of.ensures.tick)

pub join_from-requires-clause-queued : goal.join_from-requires-clause-queued
join_from-requires-clause-queued c =
    subst (λ (n : ℕ). HasQueues c.tick_of.new.self n c.self.inside.queues) (sym c.next_stamp-from.ensures)
    (idle_queues c.self.inside.rules c.tick_of.new.self c.self.inside.queues c.self.invariant
    (subst (λ (r : Roster). running r ≡ None) (sym c.self.view_is) (sym c.in-None.ensures.value)) c.tick_of.ensures.tick)

pub join_from-requires-clause-from : goal.join_from-requires-clause-from
join_from-requires-clause-from c =
    subst (λ (n : ℕ). n ≤ c.tick_of.new.self.stamp) (sym c.next_stamp-from.ensures)
    (idle_later c.self.inside.rules c.tick_of.new.self
    (subst (λ (r : Roster). running r ≡ None) (sym c.self.view_is) (sym c.in-None.ensures.value)) c.tick_of.ensures.tick)
