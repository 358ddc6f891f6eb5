use Rattle.rt_lower_laws.proofs.Leading.{lead_below}
use Rattle.rt_lower_laws.proofs.laws.labels_lead_inside.Goals as goal

pub returns : goal.returns
returns c = lead_below
