use Rattle.rt_run.proofs.Settling.{due_while_running}
use Rattle.rt_run.proofs.settle.is_due.Goals as goal

pub returns-in-Some-clause-value : goal.returns-in-Some-clause-value
returns-in-Some-clause-value c = rw c.from.ensures (due_while_running c.args.supervisor.now c.in-Some.field-0 c.args.gap c.args.since c.in-Some.ensures.value)
