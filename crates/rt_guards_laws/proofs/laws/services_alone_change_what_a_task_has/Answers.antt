use Rattle.rt_guards_laws.proofs.Owning.{ticks_keep, services_keep_others, secure_adds, release_takes, others_leave}
use Rattle.rt_guards_laws.proofs.laws.services_alone_change_what_a_task_has.Goals as goal

pub returns-clause-ticks : goal.returns-clause-ticks
returns-clause-ticks c = ticks_keep

pub returns-clause-others : goal.returns-clause-others
returns-clause-others c = services_keep_others

pub returns-clause-secures : goal.returns-clause-secures
returns-clause-secures c = secure_adds

pub returns-clause-releases : goal.returns-clause-releases
returns-clause-releases c = release_takes

pub returns-clause-leaves : goal.returns-clause-leaves
returns-clause-leaves c = others_leave
