use Rattle.rt_bricks_laws.proofs.StringBricks.{strings_rise}
use Rattle.rt_bricks_laws.proofs.laws.strings_rise.Goals as goal

pub returns : goal.returns
returns c = strings_rise
