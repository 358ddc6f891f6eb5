use Rattle.rt_check_bodies_laws.proofs.Modules.{modules_within}
use Rattle.rt_check_bodies_laws.proofs.laws.modules_are_within.Goals as goal

pub returns : goal.returns
returns c = modules_within
