use Rattle.rt_bricks_laws.proofs.BroadBricks.{bodies_broad}
use Rattle.rt_bricks_laws.proofs.laws.bodies_are_broad.Goals as goal

pub returns : goal.returns
returns c = bodies_broad
