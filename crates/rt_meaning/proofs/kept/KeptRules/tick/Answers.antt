use Rattle.std.proofs.Common.{ap, ◌∙◌}
use Rattle.rt_rules.specs.Roster.{Roster}
use Rattle.std.proofs.Common.{length}
use Rattle.rt_rules.proofs.Raises.{tick_raises}
use Rattle.rt_meaning.proofs.Counts.{length_tick, as_many}
use Rattle.rt_meaning.proofs.kept.KeptRules.tick.Goals as goal

pub renew-requires : goal.renew-requires
renew-requires c =
    rw c.rows_of.ensures (as_many c.self.inside.ends c.self.inside.rules c.tick.new.self c.self.invariant.1 (ap (λ (r : Roster). length r.tasks) c.tick.ensures.tick ∙ length_tick c.self.inside.rules))

pub returns-clause-stamp_after : goal.returns-clause-stamp_after
returns-clause-stamp_after c = rw (c.tick.ensures.tick, ← c.self.view_is) (tick_raises c.self.inside.rules c.self.invariant.0).1
