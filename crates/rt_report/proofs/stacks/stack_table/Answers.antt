use Rattle.std.proofs.Common.{◌++◌, List, ℕ, ap, ◌∙◌, subst}
use Rattle.rt_graph.specs.Scans.{told_need}
use Rattle.rt_tree_nodes.specs.declared.store.Proc.{Proc}
use Rattle.rt_report.specs.StackNeeds.{Tells, need_in}
use Rattle.rt_report.specs.Stacks.{modules_text, tasks_text}
use Rattle.rt_report.proofs.SameTables.{same_table}
use Rattle.rt_report.proofs.stacks.stack_table.Goals as goal

pub returns : goal.returns
returns c =
    let need = need_in c.in_ok-map.map in
    let objects = c.args.objects.now in
    c.in_ok-put_tasks.ensures
    ∙ ap (λ (l : List ℕ). l ++ tasks_text need objects c.tasks.result.now) (c.in_ok-put_modules.ensures ∙ ap (λ (l : List ℕ). l ++ modules_text need 1 objects) c.in_ok-out.ensures.empty)
    ∙ ap (λ ts. modules_text need 1 objects ++ tasks_text need objects ts) c.tasks.ensures.tasks
    ∙ same_table need (told_need c.args.order.now.procs c.args.needs.now) (subst (λ (ps : List Proc). Tells ps c.args.needs.now c.in_ok-map.map) c.as_slice.ensures c.in_ok-map.ensures) objects c.args.system.now.tasks
