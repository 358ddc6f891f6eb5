use Rattle.std.proofs.Common.{◌≡◌, ℕ, ◌+◌, length, Some, ap, ◌∙◌, arith}
use Rattle.std.specs.Prelude.{slice_get}
use Rattle.std.proofs.lemmas.Option.{slice_get_read}
use Rattle.rt_digraph.proofs.Lists.{long_one}
use Rattle.rt_object.specs.declared.object.ObjectParts.{ObjectParts}
use Rattle.rt_link.specs.Addresses.{nth_at}
use Rattle.rt_link.specs.Room.{module_bytes, module_strings, module_data}
use Rattle.rt_link.specs.Rows.{IsStringRow}
use Rattle.rt_link.proofs.Summed.{sum_more}
use Rattle.rt_link.proofs.Looked.{rows_grow, string_row_is}
use Rattle.rt_link.proofs.rows.string_rows.Goals as goal

pub loop-object-preserved : goal.loop-object-preserved
loop-object-preserved c =
    let objects = c.args.objects.now in
    let i = c.loop-object.object-index in
    let o = c.object-item.result in
    let inv = c.loop-object.invariant in
    let row = c.in_ok-string_row.field-0 in
    let start = c.args.start in
    let there : slice_get objects i ≡ Some o = slice_get_read objects (length objects) i o (omega arith) c.loop-object-test.true c.object-item.is in
    let more = sum_more module_bytes objects i o c.loop-object-test.true c.object-item.is in
    let strings : c.module_strings.result ≡ module_strings o = c.module_strings.ensures.strings ∙ ap module_strings c.parts-object.ensures.parts in
    let bytes : c.module_data.result ≡ module_data o = c.module_data.ensures.data_part ∙ ap module_data c.parts-object.ensures.parts in
    record {
      one_each = ap length c.in_ok-push.ensures.ok ∙ long_one c.loop-object.rows row ∙ ap (λ (k : ℕ). k + 1) inv.one_each;
      next = omega arith;
      each = rows_grow objects (λ k p. IsStringRow p.strings (nth_at module_bytes objects start k)) c.loop-object.rows c.push.new.self row i o c.in_ok-push.ensures.ok inv.one_each there
          (string_row_is c.as_slice.result.now o c.loop-object.next (nth_at module_bytes objects start i) row (c.as_slice.ensures ∙ ap (λ (p : ObjectParts). p.strings) c.parts-object.ensures.parts) inv.next c.in_ok-string_row.ensures) inv.each;
    }
