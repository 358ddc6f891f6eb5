use Rattle.rt_guards_laws.proofs.Invariant.{access_follows, order_follows}
use Rattle.rt_guards_laws.proofs.laws.tests_bound_steps.Goals as goal

pub returns-clause-access : goal.returns-clause-access
returns-clause-access c = access_follows

pub returns-clause-order : goal.returns-clause-order
returns-clause-order c = order_follows
