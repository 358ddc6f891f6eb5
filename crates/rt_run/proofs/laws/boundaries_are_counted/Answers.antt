use Rattle.rt_run.proofs.Counted.{counted}
use Rattle.rt_run.proofs.laws.boundaries_are_counted.Goals as goal

pub returns : goal.returns
returns c = counted
