use Rattle.std.proofs.Common.{◌≡◌, ℕ, ◌+◌, ◌*◌, ◌≤◌}
use Rattle.rt_work_state.specs.Labels.{lead_from}
use Rattle.rt_work_state.specs.Items as task
use Rattle.rt_work_state.specs.Nodes as n
use Rattle.rt_work_state.proofs.Sizes.{size_s, size_q}
use Rattle.rt_work_state.proofs.labels.+label.Given as goal

abbrev pub decreases-add_labels : goal.decreases-add_labels
decreases-add_labels l = 4 * size_q (n.seq l.q.now)

abbrev pub decreases-add_before : goal.decreases-add_before
decreases-add_before l = 4 * size_s (n.stmt l.s.now) + 1

abbrev pub decreases-add_inside : goal.decreases-add_inside
decreases-add_inside l = 4 * size_s (n.stmt l.s.now)

abbrev pub decreases-add_turned : goal.decreases-add_turned
decreases-add_turned l = 4 * size_q (n.seq l.q.now) + 1

abbrev pub invariant-add_labels-loop-rest : goal.invariant-add_labels-loop-rest
invariant-add_labels-loop-rest l = record {
  todo : l.todo ≡ l.initial.todo;
  leads : (label : ℕ) →
      task.or_else (lead_from l.leads label) (task.from_label label (n.seq l.rest) (n.items l.todo))
      ≡ task.or_else (lead_from l.initial.leads label) (task.from_label label (n.seq l.initial.q) (n.items l.initial.todo));
  size : size_q (n.seq l.rest) ≤ size_q (n.seq l.initial.q);
}
