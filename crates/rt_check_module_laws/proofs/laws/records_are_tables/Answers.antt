use Rattle.rt_check_module_laws.proofs.Modules.{records_are_tables}
use Rattle.rt_check_module_laws.proofs.laws.records_are_tables.Goals as goal

pub returns : goal.returns
returns c = records_are_tables
