use Rattle.rt_run.specs.Picture.{HaveStarted}
use Rattle.rt_run.proofs.open.open_tasks.Given as goal

abbrev pub invariant-loop-n : goal.invariant-loop-n
invariant-loop-n l = HaveStarted l.image l.n l.tasks.items
