use Rattle.std.proofs.Common.{subst}
use Rattle.rt_image.specs.Grammar.{Faults}
use Rattle.rt_report.specs.declared.fault.FaultLine.TheVariants as fault
use Rattle.rt_image.specs.declared.fault.ImageFault.TheVariants as image
use Rattle.rt_report.specs.declared.fault.FileKind.TheVariants as kind
use Rattle.rt_accept.specs.Reading.{IsNoFile, RefusesImage}
use Rattle.rt_accept.proofs.Accepts.{refused, wider}
use Rattle.rt_accept.proofs.reading.accept_image.Goals as goal

pub returns-in-Err-BadImage-clause-err : goal.returns-in-Err-BadImage-clause-err
returns-in-Err-BadImage-clause-err g c =
    refused c.args.name.now (g.S.Store.read_faults c.args.store.now) (g.S.Store.read_faults c.read_file.new.store) (RefusesImage (g.S.Store.files c.args.store.now) c.args.name.now) (fault.BadImage c.args.name.now c.in-Err-BadImage.at) c.bad_image.result
    (RefusesImage.no_image {bytes = c.in-Ok.bytes.items} {at = c.in-Err-BadImage.at} c.in-Ok.ensures.ok (subst (λ bs. Faults bs (image.BadImage c.in-Err-BadImage.at)) c.deref.ensures.value (subst (Faults c.deref.result.now) c.in-Err-BadImage.field-0-is c.in-Err-BadImage.ensures.refused))) c.bad_image.ensures

pub returns-clause-err : goal.returns-clause-err
returns-clause-err g c =
    wider c.args.name.now (g.S.Store.read_faults c.args.store.now) (g.S.Store.read_faults c.read_file.new.store) (IsNoFile (g.S.Store.files c.args.store.now) kind.Image c.args.name.now) (RefusesImage (g.S.Store.files c.args.store.now) c.args.name.now) c.in-Err.why
    (λ f h. RefusesImage.no_file h) c.in-Err.ensures.err
