use Rattle.rt_bricks_laws.proofs.Bricks.{procedures_counted}
use Rattle.rt_bricks_laws.proofs.laws.procedures_are_counted.Goals as goal

pub returns : goal.returns
returns c = procedures_counted
