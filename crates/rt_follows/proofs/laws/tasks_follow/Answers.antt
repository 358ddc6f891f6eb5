use Rattle.rt_follows.proofs.Starting.{tasks_follow}
use Rattle.rt_follows.proofs.laws.tasks_follow.Goals as goal

pub returns : goal.returns
returns c = tasks_follow
