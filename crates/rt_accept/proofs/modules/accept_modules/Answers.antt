use Rattle.std.proofs.lemmas.Result.{err_from_is_err_and}
use Rattle.rt_accept.proofs.Whole.{text_declined, lines_declined, few}
use Rattle.rt_accept.proofs.modules.accept_modules.Goals as goal

pub returns-in_err-system-clause-err : goal.returns-in_err-system-clause-err
returns-in_err-system-clause-err g c =
    let p = err_from_is_err_and c.from_residual.result c.from_residual.ensures.1 in
    rw (p.1, p.2) (text_declined (g.S.Store.files c.args.store.now) c.args.name.now (g.S.Store.read_faults c.args.store.now) _ c.in_err-system.field-0.0 c.in_err-system.ensures.err)

pub returns-in_err-objects-clause-err : goal.returns-in_err-objects-clause-err
returns-in_err-objects-clause-err g c =
    let p = err_from_is_err_and c.from_residual-in_err-objects.result c.from_residual-in_err-objects.ensures.1 in
    rw (p.1, p.2) (lines_declined (g.S.Store.files c.args.store.now) c.args.name.now _ c.in_ok-system.system c.entries.result.now c.in_ok-system.ensures.unchanged c.entries.ensures.entries c.in_ok-system.ensures.ok
    (g.S.Store.read_faults c.args.store.now) _ (g.S.Store.read_faults c.accept_entries.new.store) c.in_err-objects.field-0.0 c.in_ok-system.ensures.reads_later c.in_err-objects.ensures.err)

pub returns-clause-few : goal.returns-clause-few
returns-clause-few g c =
    few (g.S.Store.files c.args.store.now) c.args.name.now _ c.in_ok-system.system c.entries.result.now c.in_ok-system.ensures.unchanged c.entries.ensures.entries c.in_ok-system.ensures.ok
    c.in_ok-objects.objects c.in_ok-objects.ensures.ok c.entries.ensures.ranges.limits.few_entries
