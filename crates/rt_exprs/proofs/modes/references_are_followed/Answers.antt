use Rattle.rt_exprs.proofs.Following.{becomes_follows, becomes_back}
use Rattle.rt_exprs.proofs.modes.references_are_followed.Goals as goal

pub returns : goal.returns
returns c = λ m w v x. (becomes_follows m w v x, becomes_back m w v x)
