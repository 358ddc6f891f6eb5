use Rattle.std.proofs.Common.{subst}
use Rattle.rt_object.specs.Grammar.{Faults}
use Rattle.rt_object.specs.declared.fault.ObjectFault.TheVariants as object
use Rattle.rt_report.specs.declared.fault.FaultLine.TheVariants as fault
use Rattle.rt_report.specs.declared.fault.FileKind.TheVariants as kind
use Rattle.rt_accept.specs.Reading.{IsNoFile, RefusesObject}
use Rattle.rt_accept.proofs.Accepts.{refused, wider}
use Rattle.rt_accept.proofs.reading.accept_object.Goals as goal

pub returns-in-Err-BadObject-clause-err : goal.returns-in-Err-BadObject-clause-err
returns-in-Err-BadObject-clause-err g c =
    refused c.args.name.now (g.S.Store.read_faults c.args.store.now) (g.S.Store.read_faults c.read_file.new.store) (RefusesObject (g.S.Store.files c.args.store.now) c.args.name.now) (fault.BadObject c.args.name.now c.in-Err-BadObject.at) c.bad_object.result
    (RefusesObject.no_object {bytes = c.in-Ok.bytes.items} {at = c.in-Err-BadObject.at} c.in-Ok.ensures.ok (subst (λ bs. Faults bs (object.BadObject c.in-Err-BadObject.at)) c.deref.ensures.value (subst (Faults c.deref.result.now) c.in-Err-BadObject.field-0-is c.in-Err-BadObject.ensures.refused))) c.bad_object.ensures

pub returns-in-Err-Version-clause-err : goal.returns-in-Err-Version-clause-err
returns-in-Err-Version-clause-err g c =
    refused c.args.name.now (g.S.Store.read_faults c.args.store.now) (g.S.Store.read_faults c.read_file.new.store) (RefusesObject (g.S.Store.files c.args.store.now) c.args.name.now) (fault.ObjectVersion c.args.name.now c.in-Err-Version.found) c.other_version.result
    (RefusesObject.other_version {bytes = c.in-Ok.bytes.items} {v = c.in-Err-Version.found} c.in-Ok.ensures.ok (subst (λ bs. Faults bs (object.Version c.in-Err-Version.found)) c.deref.ensures.value (subst (Faults c.deref.result.now) c.in-Err-Version.field-0-is c.in-Err-Version.ensures.refused))) c.other_version.ensures

pub returns-clause-err : goal.returns-clause-err
returns-clause-err g c =
    wider c.args.name.now (g.S.Store.read_faults c.args.store.now) (g.S.Store.read_faults c.read_file.new.store) (IsNoFile (g.S.Store.files c.args.store.now) kind.Object c.args.name.now) (RefusesObject (g.S.Store.files c.args.store.now) c.args.name.now) c.in-Err.why
    (λ f h. RefusesObject.no_file h) c.in-Err.ensures.err
