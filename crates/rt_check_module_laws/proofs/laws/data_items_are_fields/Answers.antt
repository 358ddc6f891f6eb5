use Rattle.rt_check_module_laws.proofs.Modules.{data_items_are_fields}
use Rattle.rt_check_module_laws.proofs.laws.data_items_are_fields.Goals as goal

pub returns : goal.returns
returns c = data_items_are_fields
