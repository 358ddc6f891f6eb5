use Rattle.rt_check_declared.proofs.Least.{gathers_least}
use Rattle.rt_check_declared.proofs.gather.gathered_fault_counts.Goals as goal

pub returns : goal.returns
returns c = gathers_least
