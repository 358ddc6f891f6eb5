use Rattle.rt_check_module_laws.proofs.Holding.{names_are_held}
use Rattle.rt_check_module_laws.proofs.laws.names_hold.Goals as goal

pub returns : goal.returns
returns g items m ls seen t h = names_are_held items m ls seen t h
