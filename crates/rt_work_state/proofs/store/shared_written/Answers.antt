use Rattle.std.proofs.Common.{refl}
use Rattle.rt_work_state.specs.Stores.{module_of, module_written}
use Rattle.rt_work_state.proofs.Changes.{changed_number_found}
use Rattle.rt_work_state.proofs.store.shared_written.Goals as goal

pub returns : goal.returns
returns c =
    rw (c.set.ensures, c.module_written-new.ensures, c.taken_out-old.ensures.left) (changed_number_found c.args.store (module_of c.args.origin) _ _ _ (λ m. module_written c.args.origin c.args.path.now c.args.datum m) (λ z. c.if-number-eq0.false (rw (c.from-number.ensures, c.module_of.ensures) z)) (rw (c.from-number.ensures, c.module_of.ensures) refl) c.taken_out-old.ensures.taken)
