use Rattle.rt_guards_laws.proofs.Keeping.{starts_stand, roots_keep, roots_return, going_on_keeps, calls_keep, returns_keep, supplied_calls, secures_keep, releases_keep, others_keep, services_return, handlers_keep, handlers_return}
use Rattle.rt_guards_laws.proofs.Invariant.{stands_by_same, stands_for_fewer}
use Rattle.rt_guards_laws.proofs.laws.tasks_stand_at_points.Goals as goal

pub returns-clause-starts : goal.returns-clause-starts
returns-clause-starts c = starts_stand

pub returns-clause-same : goal.returns-clause-same
returns-clause-same c = stands_by_same

pub returns-clause-goes_on : goal.returns-clause-goes_on
returns-clause-goes_on c = going_on_keeps

pub returns-clause-calls : goal.returns-clause-calls
returns-clause-calls c = calls_keep

pub returns-clause-returned : goal.returns-clause-returned
returns-clause-returned c = returns_keep

pub returns-clause-supplied : goal.returns-clause-supplied
returns-clause-supplied c = supplied_calls

pub returns-clause-secures : goal.returns-clause-secures
returns-clause-secures c = secures_keep

pub returns-clause-releases : goal.returns-clause-releases
returns-clause-releases c = releases_keep

pub returns-clause-others : goal.returns-clause-others
returns-clause-others c = others_keep

pub returns-clause-services : goal.returns-clause-services
returns-clause-services c = services_return

pub returns-clause-handlers : goal.returns-clause-handlers
returns-clause-handlers c = handlers_keep

pub returns-clause-handled : goal.returns-clause-handled
returns-clause-handled c = handlers_return

pub returns-clause-fewer : goal.returns-clause-fewer
returns-clause-fewer c = stands_for_fewer

pub returns-clause-roots : goal.returns-clause-roots
returns-clause-roots c = roots_keep

pub returns-clause-rooted : goal.returns-clause-rooted
returns-clause-rooted c = roots_return
