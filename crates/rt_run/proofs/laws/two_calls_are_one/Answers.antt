use Rattle.rt_run.proofs.Going.{two_calls}
use Rattle.rt_run.proofs.laws.two_calls_are_one.Goals as goal

pub returns : goal.returns
returns c = two_calls
