use Rattle.rt_check_bodies_laws.proofs.StandingBodies.{locals_stand}
use Rattle.rt_check_bodies_laws.proofs.laws.locals_stand.Goals as goal

pub returns : goal.returns
returns c = locals_stand
