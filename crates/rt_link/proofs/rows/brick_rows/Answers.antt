use Rattle.std.proofs.Common.{◌≡◌, ℕ, suc, ◌+◌, length, Some, sym, ap, ◌∙◌, arith}
use Rattle.std.specs.Prelude.{slice_get}
use Rattle.std.proofs.lemmas.Option.{slice_get_read}
use Rattle.rt_digraph.proofs.Lists.{long_one}
use Rattle.rt_object.specs.declared.object.ObjectParts.{ObjectParts}
use Rattle.rt_link.specs.Addresses.{nth_at}
use Rattle.rt_link.specs.Room.{module_code, module_bytes, module_strings, module_data}
use Rattle.rt_link.specs.Rows.{IsBrickRow}
use Rattle.rt_link.proofs.Summed.{sum_more}
use Rattle.rt_link.proofs.Looked.{rows_grow, brick_row_is}
use Rattle.rt_link.proofs.rows.brick_rows.Goals as goal

pub loop-at-preserved : goal.loop-at-preserved
loop-at-preserved c =
    let objects = c.args.placed.objects.now in
    let stacks = c.args.placed.stacks.now in
    let i = c.loop-at.at in
    let o = c.index-placed-at.result in
    let inv = c.loop-at.invariant in
    let row = c.in_ok-brick_row.field-0 in
    let code = c.args.code in
    let bytes = c.args.bytes in
    let within = c.loop-at-test.true in
    let there : slice_get objects i ≡ Some o = slice_get_read objects (length objects) i o (omega arith) within c.index-placed-at.is in
    let more_code = sum_more module_code objects i o within c.index-placed-at.is in
    let more_bytes = sum_more module_bytes objects i o within c.index-placed-at.is in
    let parts : c.parts-object.result.now ≡ o = c.parts-object.ensures.parts ∙ sym c.index-placed-at.is in
    let coded : c.module_code.result ≡ module_code o = c.module_code.ensures.code ∙ ap module_code parts in
    let texts : c.module_strings.result ≡ module_strings o = c.module_strings.ensures.strings ∙ ap module_strings parts in
    let sized : c.module_data.result ≡ module_data o = c.module_data.ensures.data_part ∙ ap module_data parts in
    record {
      one_each = ap length c.in_ok-push.ensures.ok ∙ long_one c.loop-at.rows row ∙ ap (λ (k : ℕ). k + 1) inv.one_each;
      next_code = omega arith;
      next_bytes = omega arith;
      each = rows_grow objects (λ k p. IsBrickRow objects stacks (suc k) p.bricks (nth_at module_code objects code k) (nth_at module_bytes objects bytes k + module_strings p)) c.loop-at.rows c.push.new.self row i o c.in_ok-push.ensures.ok inv.one_each there
          (brick_row_is objects stacks (i + 1) i c.as_slice.result.now o c.loop-at.next_code (c.loop-at.next_bytes + c.module_strings.result) (nth_at module_code objects code i) (nth_at module_bytes objects bytes i + module_strings o) row (omega arith)
          (c.as_slice.ensures ∙ ap (λ (p : ObjectParts). p.bricks) parts) inv.next_code (omega arith) c.in_ok-brick_row.ensures) inv.each;
    }
