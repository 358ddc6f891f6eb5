use Rattle.rt_rules_laws.proofs.Alive.{runs_alive, ticks_keep_ended, services_keep_ended, ends_end}
use Rattle.rt_rules_laws.proofs.laws.ended_tasks_stay_ended.Goals as goal

pub returns-clause-runs : goal.returns-clause-runs
returns-clause-runs c = runs_alive

pub returns-clause-tick : goal.returns-clause-tick
returns-clause-tick c = ticks_keep_ended

pub returns-clause-service : goal.returns-clause-service
returns-clause-service c = services_keep_ended

pub returns-clause-end : goal.returns-clause-end
returns-clause-end c = ends_end
