use Rattle.rt_check_module_laws.proofs.Reading.{module_within}
use Rattle.rt_check_module_laws.proofs.laws.modules_stay_within.Goals as goal

pub returns : goal.returns
returns g items m t h = module_within items m t h
