use Rattle.std.proofs.Common.{subst}
use Rattle.rt_report.specs.declared.fault.FaultLine.TheVariants as fault
use Rattle.rt_report.specs.declared.fault.FileKind.TheVariants as kind
use Rattle.rt_system.specs.Ticks.{RefusesTicks as LineRefused}
use Rattle.rt_system.specs.declared.fault.LineFault.TheVariants as line
use Rattle.rt_accept.specs.Reading.{IsNoFile, RefusesTicks}
use Rattle.rt_accept.proofs.Accepts.{refused, wider}
use Rattle.rt_accept.proofs.reading.accept_ticks.Goals as goal

pub returns-in-Err-BadLine-clause-err : goal.returns-in-Err-BadLine-clause-err
returns-in-Err-BadLine-clause-err g c =
    refused c.args.name.now (g.S.Store.read_faults c.args.store.now) (g.S.Store.read_faults c.read_file.new.store) (RefusesTicks (g.S.Store.files c.args.store.now) c.args.name.now) (fault.BadLine c.args.name.now c.in-Err-BadLine.line) c.bad_line.result
    (RefusesTicks.bad_line {bytes = c.in-Ok.bytes.items} {n = c.in-Err-BadLine.line} c.in-Ok.ensures.ok (subst (λ bs. LineRefused bs (line.BadLine c.in-Err-BadLine.line)) c.deref.ensures.value (subst (LineRefused c.deref.result.now) c.in-Err-BadLine.field-0-is c.in-Err-BadLine.ensures.refused))) c.bad_line.ensures

pub returns-clause-err : goal.returns-clause-err
returns-clause-err g c =
    wider c.args.name.now (g.S.Store.read_faults c.args.store.now) (g.S.Store.read_faults c.read_file.new.store) (IsNoFile (g.S.Store.files c.args.store.now) kind.Lines c.args.name.now) (RefusesTicks (g.S.Store.files c.args.store.now) c.args.name.now) c.in-Err.why
    (λ f h. RefusesTicks.no_file h) c.in-Err.ensures.err
