use Rattle.rt_check_bodies_laws.proofs.Procedures.{few_locals}
use Rattle.rt_check_bodies_laws.proofs.laws.locals_are_few.Goals as goal

pub returns : goal.returns
returns c = few_locals
