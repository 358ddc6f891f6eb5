use Rattle.rt_bricks_laws.proofs.Strings.{some_strings_rise}
use Rattle.rt_bricks_laws.proofs.laws.some_rise.Goals as goal

pub returns : goal.returns
returns c = some_strings_rise
