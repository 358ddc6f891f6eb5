use Rattle.rt_follows.proofs.Parameters.{parameters_may_change}
use Rattle.rt_follows.proofs.laws.parameters_may_change.Goals as goal

pub returns : goal.returns
returns c = parameters_may_change
