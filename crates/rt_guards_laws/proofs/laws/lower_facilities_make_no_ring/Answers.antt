use Rattle.rt_guards_laws.proofs.Owning.{ticks_keep_lower, services_keep_lower}
use Rattle.rt_guards_laws.proofs.Rings.{rings_are_refused}
use Rattle.rt_guards_laws.proofs.laws.lower_facilities_make_no_ring.Goals as goal

pub returns-clause-ticks : goal.returns-clause-ticks
returns-clause-ticks c = ticks_keep_lower

pub returns-clause-services : goal.returns-clause-services
returns-clause-services c = services_keep_lower

pub returns-clause-rings : goal.returns-clause-rings
returns-clause-rings c = rings_are_refused
