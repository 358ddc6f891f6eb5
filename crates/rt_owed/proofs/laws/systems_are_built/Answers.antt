use Rattle.rt_owed.proofs.laws.systems_are_built.Goals as goal
use Rattle.rt_owed.proofs.Imaged.{systems_are_built}

pub returns : goal.returns
returns c = systems_are_built c.full_modes_open.ensures c.modules_fit.ensures c.systems_are_laid.ensures c.addresses_are_filled.ensures.filled c.lowered_procedures_compile.ensures c.systems_are_owed.ensures
