use Rattle.rt_faithful.proofs.Coming.{what_comes}
use Rattle.rt_faithful.proofs.laws.what_comes_may_come.Goals as goal

pub returns : goal.returns
returns c = what_comes c.ended_tasks_stay_ended.ensures.runs
