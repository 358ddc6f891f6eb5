use Rattle.rt_check_module_laws.proofs.Whole.{module_fits}
use Rattle.rt_check_module_laws.proofs.laws.modules_fit.Goals as goal

pub returns : goal.returns
returns g items m t h = module_fits items m t h
