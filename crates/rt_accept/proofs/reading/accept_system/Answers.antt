use Rattle.std.proofs.Common.{subst}
use Rattle.rt_report.specs.declared.fault.FaultLine.TheVariants as fault
use Rattle.rt_report.specs.declared.fault.FileKind.TheVariants as kind
use Rattle.rt_system.specs.Systems.{RefusesSystem as LineRefused}
use Rattle.rt_system.specs.declared.fault.LineFault.TheVariants as line
use Rattle.rt_accept.specs.Reading.{IsNoFile, RefusesSystem}
use Rattle.rt_accept.proofs.Accepts.{refused, wider}
use Rattle.rt_accept.proofs.reading.accept_system.Goals as goal

pub returns-in-Err-BadLine-clause-err : goal.returns-in-Err-BadLine-clause-err
returns-in-Err-BadLine-clause-err g c =
    refused c.args.name.now (g.S.Store.read_faults c.args.store.now) (g.S.Store.read_faults c.read_file.new.store) (RefusesSystem (g.S.Store.files c.args.store.now) c.args.objects c.args.name.now) (fault.BadLine c.args.name.now c.in-Err-BadLine.line) c.bad_line.result
    (RefusesSystem.bad_line {bytes = c.in-Ok.bytes.items} {n = c.in-Err-BadLine.line} c.in-Ok.ensures.ok (subst (λ bs. LineRefused c.args.objects bs (line.BadLine c.in-Err-BadLine.line)) c.deref.ensures.value (subst (LineRefused c.args.objects c.deref.result.now) c.in-Err-BadLine.field-0-is c.in-Err-BadLine.ensures.refused))) c.bad_line.ensures

pub returns-in-Err-ObjectLine-clause-err : goal.returns-in-Err-ObjectLine-clause-err
returns-in-Err-ObjectLine-clause-err g c =
    refused c.args.name.now (g.S.Store.read_faults c.args.store.now) (g.S.Store.read_faults c.read_file.new.store) (RefusesSystem (g.S.Store.files c.args.store.now) c.args.objects c.args.name.now) (fault.ObjectLine c.args.name.now c.in-Err-ObjectLine.line) c.object_line.result
    (RefusesSystem.object_line {bytes = c.in-Ok.bytes.items} {n = c.in-Err-ObjectLine.line} c.in-Ok.ensures.ok (subst (λ bs. LineRefused c.args.objects bs (line.ObjectLine c.in-Err-ObjectLine.line)) c.deref.ensures.value (subst (LineRefused c.args.objects c.deref.result.now) c.in-Err-ObjectLine.field-0-is c.in-Err-ObjectLine.ensures.refused))) c.object_line.ensures

pub returns-clause-err : goal.returns-clause-err
returns-clause-err g c =
    wider c.args.name.now (g.S.Store.read_faults c.args.store.now) (g.S.Store.read_faults c.read_file.new.store) (IsNoFile (g.S.Store.files c.args.store.now) kind.Lines c.args.name.now) (RefusesSystem (g.S.Store.files c.args.store.now) c.args.objects c.args.name.now) c.in-Err.why
    (λ f h. RefusesSystem.no_file h) c.in-Err.ensures.err
