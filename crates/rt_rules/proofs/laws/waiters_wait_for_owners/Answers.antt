use Rattle.rt_rules.proofs.Waiters.{waiters_always_wait}
use Rattle.rt_rules.proofs.laws.waiters_wait_for_owners.Goals as goal

pub returns : goal.returns
returns c = waiters_always_wait
