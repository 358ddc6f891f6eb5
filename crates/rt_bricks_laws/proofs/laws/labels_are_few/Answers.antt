use Rattle.rt_bricks_laws.proofs.Labels.{labels_few}
use Rattle.rt_bricks_laws.proofs.laws.labels_are_few.Goals as goal

pub returns : goal.returns
returns c = labels_few
