use Rattle.rt_check_faults.proofs.Joins.{after_err}
use Rattle.rt_check_faults.proofs.fault.after.Goals as goal

pub returns-in-Err-clause-gives : goal.returns-in-Err-clause-gives
returns-in-Err-clause-gives g c = after_err c.in-Err.fault c.earlier.result c.args.so_far c.args.next c.in-Err.is c.earlier.ensures
