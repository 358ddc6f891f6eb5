use Rattle.rt_check_bodies.proofs.Told.{assigned_err}
use Rattle.rt_check_bodies.proofs.names.Names.assigned.Goals as goal

pub returns-in-Err : goal.returns-in-Err
returns-in-Err c t h = rw c.sooner.ensures (assigned_err c.args.self.now c.args.from.now c.in-Err.fault c.alone.result t (rw c.in-Err.is at h) c.alone.ensures)
