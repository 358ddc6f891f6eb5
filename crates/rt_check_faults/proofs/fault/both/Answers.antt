use Rattle.rt_check_faults.proofs.Joins.{both_err}
use Rattle.rt_check_faults.proofs.fault.both.Goals as goal

pub returns-in-Err-clause-gives : goal.returns-in-Err-clause-gives
returns-in-Err-clause-gives g c = both_err (λ v. v) (λ v. v) c.in-Err.fault c.earlier.result c.args.left c.args.right c.in-Err.is c.earlier.ensures
