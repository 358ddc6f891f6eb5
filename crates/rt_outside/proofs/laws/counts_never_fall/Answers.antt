use Rattle.rt_outside.proofs.Changes.{later}
use Rattle.rt_outside.proofs.laws.counts_never_fall.Goals as goal

pub returns : goal.returns
returns c = later
