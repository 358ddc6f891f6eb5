use Rattle.rt_bricks_laws.proofs.StringBricks.{strings_are_short}
use Rattle.rt_bricks_laws.proofs.laws.strings_are_short.Goals as goal

pub returns : goal.returns
returns c = strings_are_short
