use Rattle.std.proofs.Common.{◌≡◌, subst, MatchOption}
use Rattle.rt_rules.specs.Roster.{Roster}
use Rattle.rt_rules.specs.First.{IsFirst, HasNone}
use Rattle.rt_rules.specs.Rules.{is_ready, running}
use Rattle.rt_run.proofs.Heads.{head_least, least_runs}
use Rattle.rt_run.proofs.supervisor.Supervisor.running.Goals as goal

pub returns-clause-value : goal.returns-clause-value
returns-clause-value c =
    subst (λ (r : Roster). c.head.result ≡ running r) c.self.view_is
    (least_runs c.self.inside.rules c.head.result c.self.invariant.ranges (head_least c.self.inside.rules c.self.inside.queues c.head.result c.self.invariant c.head.ensures))

pub returns-clause-least : goal.returns-clause-least
returns-clause-least c =
    subst (λ (r : Roster). MatchOption c.head.result (HasNone is_ready r) (IsFirst is_ready r)) c.self.view_is
    (head_least c.self.inside.rules c.self.inside.queues c.head.result c.self.invariant c.head.ensures)
