use Rattle.rt_check_bodies_laws.proofs.Bounds.{bounds_within}
use Rattle.rt_check_bodies_laws.proofs.laws.bounds_stay_within.Goals as goal

pub returns : goal.returns
returns c = bounds_within
