use Rattle.rt_check_module_laws.proofs.Records.{records_are_fit}
use Rattle.rt_check_module_laws.proofs.laws.records_fit.Goals as goal

pub returns : goal.returns
returns g items m t h = records_are_fit items m t h
