use Rattle.rt_bricks_laws.proofs.ShallowBricks.{modes_shallow}
use Rattle.rt_bricks_laws.proofs.laws.modes_are_shallow.Goals as goal

pub returns : goal.returns
returns c = modes_shallow
