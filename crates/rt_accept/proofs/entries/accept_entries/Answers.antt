use Rattle.std.proofs.Common.{◌∙◌, subst, arith}
use Rattle.std.proofs.lemmas.Result.{err_from_is_err_and}
use Rattle.rt_accept.specs.Systems.{IsAdded}
use Rattle.rt_accept.proofs.Lines.{added, line_declined}
use Rattle.rt_accept.proofs.entries.accept_entries.Goals as goal

pub returns-in_err-add_entry-clause-err : goal.returns-in_err-add_entry-clause-err
returns-in_err-add_entry-clause-err g c =
    let p = err_from_is_err_and c.from_residual.result c.from_residual.ensures.1 in
    rw (p.1, p.2) (line_declined (g.S.Store.files c.args.store.now) c.args.entries.now c.loop-entry.entry-index c.entry-item.result c.loop-entry.objects (g.S.Store.files c.loop-entry.store)
    (g.S.Store.read_faults c.args.store.now) (g.S.Store.read_faults c.loop-entry.store) (g.S.Store.read_faults c.add_entry.new.store) c.in_err-add_entry.field-0.0
    c.loop-entry-test.true c.entry-item.is c.loop-entry.invariant.3 c.loop-entry.invariant.0 c.loop-entry.invariant.1 c.in_err-add_entry.ensures.err)

pub loop-entry-preserved : goal.loop-entry-preserved
loop-entry-preserved g c = (
  c.in_ok-add_entry.ensures.unchanged ∙ c.loop-entry.invariant.0,
  λ other. omega (arith, c.loop-entry.invariant.1 other, c.in_ok-add_entry.ensures.reads_later other),
  λ other. omega (arith, c.loop-entry.invariant.2 other, c.in_ok-add_entry.ensures.writes_later other),
  added (g.S.Store.files c.args.store.now) c.args.entries.now c.loop-entry.entry-index c.entry-item.result c.loop-entry.objects c.add_entry.new.objects
      c.loop-entry-test.true c.entry-item.is c.loop-entry.invariant.3
      (subst (λ files. IsAdded files c.entry-item.result c.loop-entry.objects c.add_entry.new.objects) c.loop-entry.invariant.0 c.in_ok-add_entry.ensures.ok),
)
