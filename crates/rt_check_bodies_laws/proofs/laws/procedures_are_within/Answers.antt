use Rattle.rt_check_bodies_laws.proofs.Procedures.{procedures_within}
use Rattle.rt_check_bodies_laws.proofs.laws.procedures_are_within.Goals as goal

pub returns : goal.returns
returns c = procedures_within
