use Rattle.std.proofs.Common.{◌≡◌, ℕ, ◌+◌, length, Some, ap, ◌∙◌, arith}
use Rattle.std.specs.Prelude.{slice_get}
use Rattle.std.proofs.lemmas.Option.{slice_get_read}
use Rattle.rt_digraph.proofs.Lists.{long_one}
use Rattle.rt_graph.specs.Calls.{brick, content_at}
use Rattle.rt_link.specs.Addresses.{nth_at, address_by, stack_address}
use Rattle.rt_link.specs.Room.{code_bytes, data_bytes}
use Rattle.rt_link.proofs.Summed.{sum_more}
use Rattle.rt_link.proofs.Looked.{grows, brick_place}
use Rattle.rt_link.proofs.rows.brick_row.Goals as goal

pub loop-number-preserved : goal.loop-number-preserved
loop-number-preserved c =
    let objects = c.args.placed.objects.now in
    let stacks = c.args.placed.stacks.now in
    let m = c.args.«module» in
    let bricks = c.args.bricks.now in
    let i = c.loop-number.number in
    let x = c.index-bricks-number.result in
    let row = c.loop-number.row in
    let inv = c.loop-number.invariant in
    let code = c.args.code in
    let bytes = c.args.bytes in
    let within = c.loop-number-test.true in
    let there : slice_get bricks i ≡ Some x = slice_get_read bricks (length bricks) i x (omega arith) within c.index-bricks-number.is in
    let more_code = sum_more code_bytes bricks i c.index-bricks-number-in-loop-number.result within c.index-bricks-number-in-loop-number.is in
    let more_bytes = sum_more data_bytes bricks i c.index-bricks-number-in-loop-number-2.result within c.index-bricks-number-in-loop-number-2.is in
    let coded = c.code_bytes.ensures in
    let sized = c.data_bytes.ensures in
    record {
      one_each = ap length c.in_ok-push.ensures.ok ∙ long_one row c.address.result ∙ ap (λ (k : ℕ). k + 1) inv.one_each;
      next_code = omega arith;
      next_bytes = omega arith;
      each = grows (λ b. address_by (content_at (slice_get bricks b)) (nth_at code_bytes bricks code b) (nth_at data_bytes bricks bytes b) (stack_address objects stacks (brick m b))) row c.push.new.self c.address.result i c.in_ok-push.ensures.ok inv.one_each inv.each
          (c.address.ensures ∙ brick_place bricks i x c.loop-number.next_code c.loop-number.next_bytes (nth_at code_bytes bricks code i) (nth_at data_bytes bricks bytes i) (stack_address objects stacks (brick m i)) there inv.next_code inv.next_bytes);
    }
