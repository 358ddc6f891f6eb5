use Rattle.std.proofs.Common.{◌≡◌, sym, subst, Ok}
use Rattle.std.proofs.lemmas.Result.{err_from_is_err_and}
use Rattle.rt_words.specs.Reading.{Fails}
use Rattle.rt_object.specs.Grammar.{records_format, object_format}
use Rattle.rt_object.specs.Reading as reads
use Rattle.rt_object.proofs.RecordsRead.{fails_stops, stops_stops, records_refused, tail_refused, object_read}
use Rattle.rt_object.proofs.read.read_front.Goals as goal

pub returns-in_err-records : goal.returns-in_err-records
returns-in_err-records c =
    let p = err_from_is_err_and c.from_residual-in_err-records.result c.from_residual-in_err-records.ensures.1 in
    rw (p.1, p.2) (stops_stops records_format object_format c.in_ok-title.rest.now c.args.bytes.now c.in_err-records.field-0.0 c.in_err-records.ensures.records
    (records_refused c.args.bytes.now c.in_ok-rest.rest.now c.in_ok-rest.ensures c.in_ok-title.title c.in_ok-title.rest.now c.in_ok-title.ensures))

pub returns-in_err-tail : goal.returns-in_err-tail
returns-in_err-tail c =
    let p = err_from_is_err_and c.from_residual-in_err-tail.result c.from_residual-in_err-tail.ensures.1 in
    let fails = subst (λ rs. Fails c.in_err-tail.field-0.0 (reads.tail rs c.in_ok-records.rest.now)) c.as_slice.ensures c.in_err-tail.ensures in
    rw (p.1, p.2) (fails_stops object_format c.args.bytes.now (reads.tail c.in_ok-records.records c.in_ok-records.rest.now) c.in_err-tail.field-0.0 fails
    (tail_refused c.args.bytes.now c.in_ok-rest.rest.now c.in_ok-rest.ensures c.in_ok-title.title c.in_ok-title.rest.now c.in_ok-title.ensures c.in_ok-records.records c.in_ok-records.rest.now c.in_ok-records.ensures.records))

pub returns : goal.returns
returns c =
    let read = subst (λ rs. reads.tail rs c.in_ok-records.rest.now ≡ Ok (c.in_ok-tail.tail, c.in_ok-tail.rest.now)) c.as_slice.ensures c.in_ok-tail.ensures in
    subst (object_format.Fits c.args.bytes.now c.in_ok-tail.rest.now) (sym c.parts_of.ensures)
    (object_read c.args.bytes.now c.in_ok-rest.rest.now c.in_ok-rest.ensures c.in_ok-title.title c.in_ok-title.rest.now c.in_ok-title.ensures c.in_ok-records.records c.in_ok-records.rest.now c.in_ok-records.ensures.records c.in_ok-tail.tail c.in_ok-tail.rest.now read)
