use Rattle.rt_modes.proofs.Named.{of_their_names, are_numbered}
use Rattle.rt_modes.proofs.supplied_laws.supplied_names_tell.Goals as goal

pub returns-clause-named : goal.returns-clause-named
returns-clause-named c = of_their_names

pub returns-clause-numbered : goal.returns-clause-numbered
returns-clause-numbered c = are_numbered
