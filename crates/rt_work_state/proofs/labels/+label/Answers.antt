use Rattle.std.proofs.Common.{arith, sym, ◌∙◌, ◌==◌, ◌∷◌}
use Rattle.rt_work_state.specs.Labels.{lead_from}
use Rattle.rt_work_state.specs.Items as task
use Rattle.rt_work_state.specs.Nodes as n
use Rattle.rt_work_state.proofs.Firsts.{or_else_none, here_first}
use Rattle.rt_work_state.proofs.labels.+label.Goals as goal

pub add_labels-returns-in-Done-clause-leads : goal.add_labels-returns-in-Done-clause-leads
add_labels-returns-in-Done-clause-leads t c = λ label. sym (or_else_none _) ∙ rw (c.in-Done.is) at (c.loop-rest.invariant.leads label)

pub add_labels-loop-rest-preserved-in-Mark : goal.add_labels-loop-rest-preserved-in-Mark
add_labels-loop-rest-preserved-in-Mark t c =
    let behind = n.seq c.in-Mark.behind.value in
    let todo = n.items c.loop-rest.todo in
    record {
      todo = c.loop-rest.invariant.todo;
      leads = λ label. rw (c.in_ok-add_label-in-Mark.ensures label, c.deref-rest.ensures) (here_first (lead_from c.loop-rest.leads label) (c.in-Mark.label == label) (task.Do behind ∷ todo) (task.from_label label behind todo) ∙ rw (c.in-Mark.is) at (c.loop-rest.invariant.leads label));
      size = rw (c.deref-rest.ensures) (omega (arith, rw (c.in-Mark.is) at c.loop-rest.invariant.size));
    }
