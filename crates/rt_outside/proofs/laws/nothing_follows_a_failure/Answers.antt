use Rattle.rt_outside.proofs.Stretches.{stopped}
use Rattle.rt_outside.proofs.laws.nothing_follows_a_failure.Goals as goal

pub returns : goal.returns
returns c = stopped
