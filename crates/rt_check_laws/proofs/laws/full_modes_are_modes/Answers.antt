use Rattle.rt_check_laws.proofs.Modes.{full_modes_are_modes}
use Rattle.rt_check_laws.proofs.laws.full_modes_are_modes.Goals as goal

pub returns : goal.returns
returns c = full_modes_are_modes c.records_are_tables.ensures c.full_modes_tell_modes.ensures
