use Rattle.std.proofs.Common.{sym, ◌∙◌, subst}
use Rattle.std.specs.List.{AllByRecursion}
use Rattle.rt_check.specs.Texts.{IsTree}
use Rattle.rt_compile.specs.Texts.{IsFault}
use Rattle.rt_items.specs.Ranges.{IsByte}
use Rattle.rt_report.specs.declared.fault.FileKind.TheVariants as kind
use Rattle.rt_accept.specs.Faulting.{line_of}
use Rattle.rt_accept.specs.Reading.{IsNoFile, RefusesModule}
use Rattle.rt_accept.proofs.Accepts.{told, wider}
use Rattle.rt_accept.proofs.reading.accept_module.Goals as goal

pub returns-in-Ok-clause-err : goal.returns-in-Ok-clause-err
returns-in-Ok-clause-err g c =
    told c.args.name.now (g.S.Store.read_faults c.args.store.now) (g.S.Store.read_faults c.read_file.new.store) (RefusesModule (g.S.Store.files c.args.store.now) c.args.name.now) (line_of c.args.name.now c.in-Err-compile.fault) c.not_compiled.result
    (λ f e. RefusesModule.no_module {bytes = c.in-Ok.bytes.items} {f = f} c.in-Err-compile.fault c.in-Ok.ensures.ok (subst (λ bs. IsFault bs c.in-Err-compile.fault) c.deref-in-Ok.ensures.value (c.in-Err-compile.ensures.fault (subst (AllByRecursion IsByte) (c.deref.ensures.value ∙ sym c.deref-in-Ok.ensures.value) c.bytes_are_small.ensures)))
    (λ tree is. c.in-Err-compile.ensures.only tree (subst (AllByRecursion IsByte) (c.deref.ensures.value ∙ sym c.deref-in-Ok.ensures.value) c.bytes_are_small.ensures) (subst (λ bs. IsTree bs tree) (sym c.deref-in-Ok.ensures.value) is)) e) c.not_compiled.ensures

pub returns-clause-err : goal.returns-clause-err
returns-clause-err g c =
    wider c.args.name.now (g.S.Store.read_faults c.args.store.now) (g.S.Store.read_faults c.read_file.new.store) (IsNoFile (g.S.Store.files c.args.store.now) kind.Module c.args.name.now) (RefusesModule (g.S.Store.files c.args.store.now) c.args.name.now) c.in-Err.why
    (λ f h. RefusesModule.no_file h) c.in-Err.ensures.err
