use Rattle.rt_bricks_laws.proofs.Strings.{some_strings_are_short}
use Rattle.rt_bricks_laws.proofs.laws.some_are_short.Goals as goal

pub returns : goal.returns
returns c = some_strings_are_short
