use Rattle.rt_meaning.proofs.Counts.{length_call, as_many}
use Rattle.rt_meaning.proofs.kept.KeptRules.call.Goals as goal

pub renew-requires : goal.renew-requires
renew-requires c =
    rw c.rows_of.ensures (as_many c.self.inside.ends c.self.inside.rules c.call-outcome.new.self c.self.invariant.1 (length_call c.self.inside.rules c.call-outcome.new.self c.args.service c.call-outcome.result c.self.invariant.0 (rw (← c.self.view_is) at c.requires.runs) c.call-outcome.ensures.served))
