use Rattle.rt_follows.proofs.Calls.{calls_go_through}
use Rattle.rt_follows.proofs.laws.calls_go_through.Goals as goal

pub returns : goal.returns
returns c = calls_go_through
