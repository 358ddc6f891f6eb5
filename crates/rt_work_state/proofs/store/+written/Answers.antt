use Rattle.rt_tree.specs.Stored.{written}
use Rattle.rt_work_state.proofs.Changes.{changed_found}
use Rattle.rt_work_state.proofs.store.+written.Goals as goal

pub part_written-returns : goal.part_written-returns
part_written-returns t c =
    rw (c.set.ensures, c.taken_out-old.ensures.left, c.written-new.ensures, c.from-at.ensures) (changed_found c.args.parts c.args.number _ _ (λ x. written c.args.path.now c.args.datum x) (rw c.from-at.ensures at c.taken_out-old.ensures.taken))
