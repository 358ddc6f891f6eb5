use Rattle.std.proofs.Common.{◌≡◌, Option, None, get_or, sym, subst, ◌∙◌}
use Rattle.rt_tasks.specs.Parts.{Task}
use Rattle.rt_run.proofs.Slots.{not_empty}
use Rattle.rt_run.proofs.machine.take_task.Goals as goal

pub unreachable-requires : goal.unreachable-requires
unreachable-requires c =
    let none : c.index_mut.result.now ≡ None = sym c.take.ensures.value ∙ c.in-None.is in
    not_empty c.args.tasks.now.items c.args.n c.requires.all_there c.requires.there (subst (λ (o : Option Task). o ≡ get_or c.args.tasks.now.items c.args.n o) none c.index_mut.ensures.value)
