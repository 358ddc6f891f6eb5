use Rattle.std.proofs.Common.{◌≡◌, ℕ, ◌<◌, true, false, List, length, set, drop, sym, ◌∙◌, subst}
use Rattle.rt_rules.specs.declared.task.TaskRow.{TaskRow}
use Rattle.rt_run.specs.Queues.{queue_of, HasQueues, has_left}
use Rattle.rt_run.proofs.Leaving.{leave_room, leave_cut, leave_stay}
use Rattle.rt_run.proofs.moves.leave.Goals as goal

pub pop-requires : goal.pop-requires
pop-requires c =
    subst (λ (t : TaskRow). 0 < length (queue_of c.args.queues.now t.priority)) (sym c.row_of-row.ensures)
    (leave_room c.args.task c.args.from c.args.rules.now c.args.queues.now c.requires)

pub returns-then-has_left-clause-queued : goal.returns-then-has_left-clause-queued
returns-then-has_left-clause-queued c =
    let left = subst (λ (t : TaskRow). has_left t c.args.from ≡ true) c.row_of-row.ensures (sym c.has_left.ensures ∙ c.if-has_left.true) in
    subst (λ (qs : List (List ℕ)). HasQueues c.args.rules.now c.args.from qs) (sym c.pop.ensures)
    (subst (λ (t : TaskRow). HasQueues c.args.rules.now c.args.from (set c.args.queues.now t.priority (drop 1 (queue_of c.args.queues.now t.priority)))) (sym c.row_of-row.ensures)
    (leave_cut c.args.task c.args.from c.args.rules.now c.args.queues.now c.requires left))

pub returns-else-has_left-clause-queued : goal.returns-else-has_left-clause-queued
returns-else-has_left-clause-queued c =
    leave_stay c.args.task c.args.from c.args.rules.now c.args.queues.now c.requires
    (subst (λ (t : TaskRow). has_left t c.args.from ≡ false) c.row_of-row.ensures (sym c.has_left.ensures ∙ c.if-has_left.false))
