use Rattle.std.proofs.Common.{length, ap, sym, ◌∙◌}
use Rattle.rt_rules.specs.Roster.{Roster}
use Rattle.rt_meaning.proofs.Counts.{length_tick}
use Rattle.rt_meaning.proofs.state.SourceState.tick.Goals as goal

pub invariant_of-self : goal.invariant_of-self
invariant_of-self c =
    record { counted = c.args.self.now.counted ∙ sym (ap (λ (r : Roster). length r.tasks) c.tick.ensures.tick ∙ length_tick c.args.self.now.common.rules) }
