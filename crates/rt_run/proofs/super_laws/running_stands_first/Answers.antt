use Rattle.rt_run.proofs.QueuePlaces.{one_queue, runs_at_head, head_runs}
use Rattle.rt_run.proofs.super_laws.running_stands_first.Goals as goal

pub returns : goal.returns
returns c = record { one = one_queue; at_head = runs_at_head; runs = head_runs }
