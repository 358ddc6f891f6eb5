use Rattle.rt_imaging.proofs.laws.tasks_are_those.Goals as goal
use Rattle.rt_imaging.proofs.Tasks.{tasks_are_those}

pub returns : goal.returns
returns c = tasks_are_those
