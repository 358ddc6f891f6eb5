use Rattle.rt_outside.proofs.Changes.{earlier}
use Rattle.rt_outside.proofs.Stretches.{joined}
use Rattle.rt_outside.proofs.laws.stretches_join.Goals as goal

pub returns-clause-join : goal.returns-clause-join
returns-clause-join c = joined

pub returns-clause-earlier : goal.returns-clause-earlier
returns-clause-earlier c = earlier
