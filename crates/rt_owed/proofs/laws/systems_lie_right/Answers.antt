use Rattle.rt_owed.proofs.laws.systems_lie_right.Goals as goal
use Rattle.rt_owed.proofs.Imaged.{systems_lie_right}

pub returns : goal.returns
returns c = systems_lie_right c.full_modes_open.ensures c.modules_fit.ensures c.systems_are_laid.ensures
