use Rattle.rt_faithful.proofs.Ending.{ends_are_faithful}
use Rattle.rt_faithful.proofs.laws.ends_are_faithful.Goals as goal

pub returns : goal.returns
returns c = ends_are_faithful
