use Rattle.std.proofs.Common.{sym, ◌∙◌}
use Rattle.rt_exprs.specs.Indexed.{number_at}
use Rattle.rt_exprs.proofs.Indexing.{one_more_field, no_more_fields}
use Rattle.rt_exprs.proofs.records.field_numbers.Goals as goal

pub loop-number-preserved : goal.loop-number-preserved
loop-number-preserved c = λ name.
    one_more_field c.loop-number.numbers c.note_first.new.numbers c.args.fields.now c.loop-number.number c.index-fields-number.result c.as_slice.result.now c.as_slice.ensures.bytes c.in_ok-note_first.ensures c.loop-number-test.true c.index-fields-number.is name ∙ c.loop-number.invariant name

pub returns : goal.returns
returns c = λ name. sym (no_more_fields (number_at c.loop-number.numbers name) c.args.fields.now c.loop-number.number name c.loop-number-test.false) ∙ c.loop-number.invariant name
