use Rattle.std.proofs.Common.{◌≤◌, ◌∙◌, ap, subst}
use Rattle.std.proofs.lemmas.Result.{err_from_is_err_and}
use Rattle.rt_link.specs.Room.{room}
use Rattle.rt_link.specs.Verdict.{memory, stack_bricks}
use Rattle.rt_link.proofs.Judging.{ordered, found, small_fault, full_fault, few_lent}
use Rattle.rt_link.proofs.judged.judge.Goals as goal

pub returns-in_err-check_stacks-clause-fault : goal.returns-in_err-check_stacks-clause-fault
returns-in_err-check_stacks-clause-fault c =
    let objects = c.args.objects.now in
    let tasks = c.args.system.now.tasks in
    let of = c.in_ok-bindings.bindings.of in
    let p = err_from_is_err_and c.from_residual-in_err-check_stacks.result c.from_residual-in_err-check_stacks.ensures.1 in
    let h = ordered objects tasks of c.in_ok-roots.roots c.in_ok-order.order.procs c.in_ok-needs.needs c.as_slice.result.now c.in_ok-bindings.ensures.matched c.in_ok-bindings.ensures.bound c.in_ok-roots.ensures.roots c.as_slice.ensures c.in_ok-order.ensures.order c.in_ok-needs.ensures in
    rw (p.1, p.2) (small_fault objects tasks of c.in_ok-roots.roots c.in_ok-order.order.procs c.in_ok-needs.needs h c.in_err-check_stacks.field-0.0
    (c.in_err-check_stacks.ensures.refused of (found objects tasks of c.in_ok-roots.roots c.in_ok-order.order.procs c.in_ok-needs.needs c.as_slice-2.result.now c.as_slice-2.ensures h)))

pub check_room-requires-clause-tasks : goal.check_room-requires-clause-tasks
check_room-requires-clause-tasks c =
    few_lent c.args.objects.now c.args.system.now.tasks c.as_slice-3.result.now (c.as_slice-3.ensures ∙ c.in_ok-stacks.ensures ∙ ap (λ ts. stack_bricks c.args.objects.now ts) c.tasks.ensures.tasks) c.tasks.ensures.ranges.limits.few_tasks

pub returns-in_err-check_room-clause-fault : goal.returns-in_err-check_room-clause-fault
returns-in_err-check_room-clause-fault c =
    let objects = c.args.objects.now in
    let tasks = c.args.system.now.tasks in
    let of = c.in_ok-bindings.bindings.of in
    let p = err_from_is_err_and c.from_residual-in_err-check_room.result c.from_residual-in_err-check_room.ensures.1 in
    let h = ordered objects tasks of c.in_ok-roots.roots c.in_ok-order.order.procs c.in_ok-needs.needs c.as_slice.result.now c.in_ok-bindings.ensures.matched c.in_ok-bindings.ensures.bound c.in_ok-roots.ensures.roots c.as_slice.ensures c.in_ok-order.ensures.order c.in_ok-needs.ensures in
    let enough = c.in_ok-check_stacks.ensures.enough of (found objects tasks of c.in_ok-roots.roots c.in_ok-order.order.procs c.in_ok-needs.needs c.as_slice-2.result.now c.as_slice-2.ensures h) in
    rw (p.1, p.2) (full_fault objects tasks of c.in_ok-roots.roots c.in_ok-order.order.procs c.in_ok-needs.needs (record { ordered = h; enough = enough }) c.as_slice-3.result.now
    (c.as_slice-3.ensures ∙ c.in_ok-stacks.ensures ∙ ap (λ ts. stack_bricks objects ts) c.tasks.ensures.tasks) c.in_err-check_room.field-0.0 c.in_err-check_room.ensures.full.0 c.in_err-check_room.ensures.full.1)

pub returns-clause-judged : goal.returns-clause-judged
returns-clause-judged c =
    let objects = c.args.objects.now in
    let tasks = c.args.system.now.tasks in
    let of = c.in_ok-bindings.bindings.of in
    let h = ordered objects tasks of c.in_ok-roots.roots c.in_ok-order.order.procs c.in_ok-needs.needs c.as_slice.result.now c.in_ok-bindings.ensures.matched c.in_ok-bindings.ensures.bound c.in_ok-roots.ensures.roots c.as_slice.ensures c.in_ok-order.ensures.order c.in_ok-needs.ensures in
    let enough = c.in_ok-check_stacks.ensures.enough of (found objects tasks of c.in_ok-roots.roots c.in_ok-order.order.procs c.in_ok-needs.needs c.as_slice-2.result.now c.as_slice-2.ensures h) in
    record {
      deep = record { ordered = h; enough = enough };
      stacks = c.in_ok-stacks.ensures ∙ ap (λ ts. stack_bricks objects ts) c.tasks.ensures.tasks;
      room = subst (λ fs. room objects fs ≤ memory) c.as_slice-3.ensures c.in_ok-check_room.ensures.fits;
    }
