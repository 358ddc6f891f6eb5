use Rattle.rt_report.proofs.Told.{told_of}
use Rattle.rt_report.proofs.laws.each_task_is_told.Goals as goal

pub returns : goal.returns
returns c = told_of
