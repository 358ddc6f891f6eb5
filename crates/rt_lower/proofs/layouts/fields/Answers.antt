use Rattle.std.proofs.Common.{◌≡◌, ap, sym, ◌∙◌, subst, length, [], ◌∷◌, List, Some, arith, length-append}
use Rattle.std.proofs.lemmas.Option.{slice_get-get_or}
use Rattle.std.specs.Prelude.{slice_get}
use Rattle.rt_modes.specs.declared.mode.Field.{Field}
use Rattle.rt_lower.specs.Layouts.{FieldsBegin, AreOffsets}
use Rattle.rt_lower.proofs.Listing.{row_more}
use Rattle.rt_lower.proofs.layouts.fields.Goals as goal

pub loop-record-preserved : goal.loop-record-preserved
loop-record-preserved c =
    let there : slice_get c.args.records.now c.loop-record.record-index ≡ Some c.record-item.result = slice_get-get_or c.args.records.now c.loop-record.record-index c.record-item.result c.loop-record-test.true ∙ ap (λ x. Some x) (sym c.record-item.is) in
    record {
      each = omega (arith, ap length c.in_ok-push.ensures.ok, length-append c.loop-record.rows (c.in_ok-offsets.field-0 ∷ []), c.loop-record.invariant.each);
      right = λ t a. row_more (FieldsBegin t) c.args.records.now c.loop-record.rows c.loop-record.record-index c.in_ok-offsets.field-0 c.push.new.self c.record-item.result c.in_ok-push.ensures.ok c.loop-record.invariant.each there
          (subst (λ (fs : List Field). AreOffsets t fs c.in_ok-offsets.field-0) c.as_slice.ensures (c.in_ok-offsets.ensures t a)) (c.loop-record.invariant.right t a);
    }

pub returns : goal.returns
returns c = λ t a. record { each = omega arith; right = c.loop-record.invariant.right t a }
