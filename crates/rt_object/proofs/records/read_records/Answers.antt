use Rattle.std.proofs.Common.{[], None, Some, subst, length}
use Rattle.std.proofs.lemmas.Result.{err_from_is_err_and}
use Rattle.rt_words.specs.Reading as formats
use Rattle.rt_object.specs.Grammar.{records_format, IsFirstBad}
use Rattle.rt_object.specs.Known.{IsFirst}
use Rattle.rt_object.specs.Reading as reads
use Rattle.rt_object.proofs.RecordsRead.{fails_stops, told_stops, list_refused, list_read, front_read, bad_refused}
use Rattle.rt_object.proofs.records.read_records.Goals as goal

pub returns-in_err-records-clause-records : goal.returns-in_err-records-clause-records
returns-in_err-records-clause-records c =
    let p = err_from_is_err_and c.from_residual-in_err-records.result c.from_residual-in_err-records.ensures.1 in
    rw (p.1, p.2) (fails_stops records_format c.args.bytes.now (formats.each (reads.record_reader c.in_ok-count.count) c.from.result [] c.in_ok-count.behind.now) c.in_err-records.field-0.0 c.in_err-records.ensures.records
    (list_refused c.args.bytes.now c.in_ok-count.count c.from.result c.from.ensures c.in_ok-count.behind.now c.in_ok-count.ensures))

pub returns-in-None-clause-records : goal.returns-in-None-clause-records
returns-in-None-clause-records c =
    let none : IsFirst c.in_ok-records.records None = subst (λ rs. IsFirst rs None) c.as_slice.ensures (subst (IsFirst c.as_slice.result.now) c.in-None.is c.in_ok-first_bad.ensures) in
    list_read c.args.bytes.now c.in_ok-count.count c.from.result c.from.ensures c.in_ok-count.behind.now c.in_ok-count.ensures c.in_ok-records.records c.in_ok-records.rest.now c.in_ok-records.ensures.records none

pub returns-clause-records : goal.returns-clause-records
returns-clause-records c =
    let bytes = c.args.bytes.now in
    let records = c.in_ok-records.records in
    let first : IsFirstBad records c.in-Some.number = subst (λ rs. IsFirst rs (Some c.in-Some.number)) c.as_slice.ensures (subst (IsFirst c.as_slice.result.now) c.in-Some.is c.in_ok-first_bad.ensures) in
    let front = front_read bytes c.in_ok-count.count c.from.result c.from.ensures c.in_ok-count.behind.now c.in_ok-count.ensures records c.in_ok-records.rest.now c.in_ok-records.ensures.records c.in-Some.number first.there c.in_ok-records.ensures.number in
    told_stops records_format bytes (length front.0) c.refused_behind.result (c.refused_behind.ensures _ front.0 front.1)
    (bad_refused bytes c.in_ok-count.count c.from.result c.from.ensures c.in_ok-count.behind.now c.in_ok-count.ensures records c.in_ok-records.rest.now c.in_ok-records.ensures.records c.in-Some.number front.0 first front.1)
