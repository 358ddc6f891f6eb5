use Rattle.rt_bricks_laws.proofs.Deeper.{deeper_shallow}
use Rattle.rt_bricks_laws.proofs.laws.deeper_is_shallow.Goals as goal

pub returns : goal.returns
returns c = deeper_shallow
