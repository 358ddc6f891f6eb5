use Rattle.std.proofs.Common.{[], refl, subst}
use Rattle.std.proofs.lemmas.Result.{err_from_is_err_and}
use Rattle.rt_words.specs.Format.{whole}
use Rattle.rt_words.specs.Reading as formats
use Rattle.rt_object.specs.Grammar.{object_format}
use Rattle.rt_object.proofs.RecordsRead.{fails_stops, byte_behind, nothing_behind}
use Rattle.rt_object.proofs.read.read_parts.Goals as goal

pub returns-in_err-read_end : goal.returns-in_err-read_end
returns-in_err-read_end c =
    let p = err_from_is_err_and c.from_residual-in_err-read_end.result c.from_residual-in_err-read_end.ensures.1 in
    rw (p.1, p.2) (fails_stops (whole object_format) c.args.bytes.now (formats.ended tt c.in_ok-parts.rest.now) c.in_err-read_end.field-0.0 c.in_err-read_end.ensures
    (λ n. byte_behind c.args.bytes.now c.in_ok-parts.parts c.in_ok-parts.rest.now n c.in_ok-parts.ensures))

pub returns : goal.returns
returns c =
    let none = nothing_behind c.args.bytes.now c.in_ok-parts.parts c.in_ok-parts.rest.now [] c.in_ok-read_end.ensures in
    (subst (λ r. object_format.Fits c.args.bytes.now r c.in_ok-parts.parts) none c.in_ok-parts.ensures, refl)
