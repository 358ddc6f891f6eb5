use Rattle.rt_modes.proofs.Named.{numbers_agree}
use Rattle.rt_modes.proofs.supplied_laws.supplied_bricks_agree.Goals as goal

pub returns-clause-numbers : goal.returns-clause-numbers
returns-clause-numbers c = numbers_agree
