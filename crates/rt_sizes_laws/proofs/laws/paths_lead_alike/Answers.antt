use Rattle.rt_sizes_laws.proofs.Leading.{paths_lead_alike}
use Rattle.rt_sizes_laws.proofs.laws.paths_lead_alike.Goals as goal

pub returns : goal.returns
returns c = paths_lead_alike c.full_modes_open.ensures
