use Rattle.std.proofs.Common.{◌≡◌, ℕ, ◌+◌, ◌<◌, true, false, List, [], ◌∷◌, ◌++◌, length, set, sym, ◌∙◌, subst}
use Rattle.rt_rules.specs.declared.task.TaskRow.{TaskRow}
use Rattle.rt_rules.specs.Rules.{is_ready}
use Rattle.rt_run.specs.Queues.{queue_of, HasQueues}
use Rattle.rt_run.proofs.Joining.{join_none, join_other, join_ready, join_room}
use Rattle.rt_run.proofs.moves.join.Goals as goal

pub push-requires : goal.push-requires
push-requires c =
    let ready = subst (λ (t : TaskRow). is_ready t.state ≡ true) c.row_of-row.ensures (sym c.is_ready.ensures ∙ c.if-is_ready.true) in
    subst (λ (t : TaskRow). length (queue_of c.args.queues.now t.priority) < 32) (sym c.row_of-row.ensures)
    (join_room c.args.rules.now c.args.stamp c.in-Some.task c.args.queues.now c.requires c.in-Some.ensures.holder ready)

pub returns-then-is_ready : goal.returns-then-is_ready
returns-then-is_ready c =
    let ready = subst (λ (t : TaskRow). is_ready t.state ≡ true) c.row_of-row.ensures (sym c.is_ready.ensures ∙ c.if-is_ready.true) in
    subst (λ (qs : List (List ℕ)). HasQueues c.args.rules.now (c.args.stamp + 1) qs) (sym c.push.ensures)
    (subst (λ (t : TaskRow). HasQueues c.args.rules.now (c.args.stamp + 1) (set c.args.queues.now t.priority (queue_of c.args.queues.now t.priority ++ c.in-Some.task ∷ []))) (sym c.row_of-row.ensures)
    (join_ready c.args.rules.now c.args.stamp c.in-Some.task c.args.queues.now c.requires c.in-Some.ensures.holder ready))

pub returns-else-is_ready : goal.returns-else-is_ready
returns-else-is_ready c =
    let idle = subst (λ (t : TaskRow). is_ready t.state ≡ false) c.row_of-row.ensures (sym c.is_ready.ensures ∙ c.if-is_ready.false) in
    join_other c.args.rules.now c.args.stamp c.in-Some.task c.args.queues.now c.requires c.in-Some.ensures.holder idle

pub returns-in-None : goal.returns-in-None
returns-in-None c = join_none c.args.rules.now c.args.stamp c.args.queues.now c.requires c.in-None.ensures.holder
