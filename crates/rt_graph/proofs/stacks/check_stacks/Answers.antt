use Rattle.std.proofs.Common.{◌≡◌, ℕ, ◌<◌, List, Some, None, length, slice_get, sym, ap, ◌∙◌, subst, arith}
use Rattle.std.proofs.lemmas.Option.{slice_get_read, slice_get_within}
use Rattle.rt_tree_nodes.specs.declared.store.Proc.{Proc}
use Rattle.rt_system.specs.declared.parts.Task.{Task}
use Rattle.rt_graph.specs.Scans.{small, stack_named}
use Rattle.rt_graph.proofs.Stacked.{each_more, enough, first_small}
use Rattle.rt_graph.proofs.stacks.check_stacks.Goals as goal

pub returns-in-Some-clause-refused : goal.returns-in-Some-clause-refused
returns-in-Some-clause-refused c of found =
    let objects = c.args.objects.now in
    let tasks = c.args.system.now.tasks in
    let order = c.args.order.now.procs in
    let n = c.loop-task.task-index in
    let t = c.task-item.result in
    let at : slice_get tasks n ≡ Some t = subst (λ (ts : List Task). slice_get ts n ≡ Some t) c.tasks-task-items.ensures.tasks (slice_get_read c.tasks-task-items.result.now (length c.tasks-task-items.result.now) n t (omega arith) (omega arith) c.task-item.is) in
    first_small objects of tasks order c.args.needs.now found n t c.in_ok-copy.field-0 c.in-Some.need c.in-Some.has at c.in_ok-copy.ensures
    (ap (λ (fs : List Proc). small objects fs c.args.needs.now t) (sym c.as_slice.ensures) ∙ sym c.small.ensures.value ∙ c.in-Some.is)
    (λ j u l e. (let r = c.loop-task.invariant j u l e in enough objects of tasks order c.args.needs.now found j u e r.0 r.1))

pub loop-task-preserved : goal.loop-task-preserved
loop-task-preserved c =
    let objects = c.args.objects.now in
    let tasks = c.args.system.now.tasks in
    let order = c.args.order.now.procs in
    let n = c.loop-task.task-index in
    let t = c.task-item.result in
    let at : slice_get tasks n ≡ Some t = subst (λ (ts : List Task). slice_get ts n ≡ Some t) c.tasks-task-items.ensures.tasks (slice_get_read c.tasks-task-items.result.now (length c.tasks-task-items.result.now) n t (omega arith) (omega arith) c.task-item.is) in
    each_more (λ i u. (small objects order c.args.needs.now u ≡ None) × ((k : ℕ) → stack_named objects u.stack ≡ Some k → k < 65536)) tasks n t c.loop-task.invariant at
    (ap (λ (fs : List Proc). small objects fs c.args.needs.now t) (sym c.as_slice.ensures) ∙ sym c.small.ensures.value ∙ c.in_default.is, c.small.ensures.words)

pub returns-clause-enough : goal.returns-clause-enough
returns-clause-enough c of found i t at =
    let tasks = c.args.system.now.tasks in
    let l = slice_get_within tasks i t at in
    let long : length c.tasks-task-items.result.now ≡ length tasks = ap length c.tasks-task-items.ensures.tasks in
    let r = c.loop-task.invariant i t (let b = c.loop-task-test.false in omega arith) at in
    enough c.args.objects.now of tasks c.args.order.now.procs c.args.needs.now found i t at r.0 r.1
