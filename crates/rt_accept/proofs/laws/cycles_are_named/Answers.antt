use Rattle.rt_accept.proofs.Printed.{are_named}
use Rattle.rt_accept.proofs.laws.cycles_are_named.Goals as goal

pub returns : goal.returns
returns c = are_named
