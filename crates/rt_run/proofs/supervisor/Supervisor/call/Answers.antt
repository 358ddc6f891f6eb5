use Rattle.std.proofs.Common.{◌≡◌, ℕ, Some, sym, ap, subst}
use Rattle.rt_rules.specs.Roster.{Roster}
use Rattle.rt_rules.specs.Rules.{running, Served}
use Rattle.rt_run.specs.Queues.{Leaves}
use Rattle.rt_run.proofs.Heads.{leaves_serve}
use Rattle.rt_run.proofs.supervisor.Supervisor.call.Goals as goal

pub follow-requires : goal.follow-requires
follow-requires c =
    subst (λ (n : ℕ). Leaves c.in-Some.task n c.serve-outcome.new.self c.self.inside.queues) (sym c.next_stamp-from.ensures)
    (leaves_serve c.self.inside.rules c.in-Some.task c.args.svc c.serve-outcome.new.self c.self.inside.queues c.self.invariant
    (subst (λ (r : Roster). running r ≡ Some c.in-Some.task) (sym c.self.view_is) (sym c.in-Some.ensures.value))
    (ap (λ (s : Served). s.0) c.serve-outcome.ensures))
