use Rattle.rt_bricks_laws.proofs.Items.{items_counted}
use Rattle.rt_bricks_laws.proofs.laws.items_are_counted.Goals as goal

pub returns : goal.returns
returns c = items_counted
