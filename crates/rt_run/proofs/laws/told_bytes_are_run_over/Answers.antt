use Rattle.rt_run.proofs.Going.{over_told}
use Rattle.rt_run.proofs.laws.told_bytes_are_run_over.Goals as goal

pub returns : goal.returns
returns c = over_told
