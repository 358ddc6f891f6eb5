use Rattle.std.proofs.Common.{◌≡◌, ℕ, ◌+◌, length, ap, ◌∙◌, arith}
use Rattle.rt_digraph.proofs.Lists.{long_one}
use Rattle.rt_link.specs.Addresses.{nth_at}
use Rattle.rt_link.specs.Room.{string_bytes}
use Rattle.rt_link.proofs.Summed.{sum_more}
use Rattle.rt_link.proofs.Looked.{grows}
use Rattle.rt_link.proofs.rows.string_row.Goals as goal

pub loop-string-preserved : goal.loop-string-preserved
loop-string-preserved c =
    let strings = c.args.strings.now in
    let i = c.loop-string.string-index in
    let x = c.string-item.result in
    let row = c.loop-string.row in
    let next = c.loop-string.next in
    let more = sum_more string_bytes strings i x c.loop-string-test.true c.string-item.is in
    let bytes : c.string_bytes.result ≡ string_bytes x = c.string_bytes.ensures ∙ ap string_bytes c.as_slice.ensures in
    record {
      one_each = ap length c.in_ok-push.ensures.ok ∙ long_one row next ∙ ap (λ (k : ℕ). k + 1) c.loop-string.invariant.one_each;
      next = omega arith;
      each = grows (nth_at string_bytes strings c.args.first) row c.push.new.self next i c.in_ok-push.ensures.ok c.loop-string.invariant.one_each c.loop-string.invariant.each c.loop-string.invariant.next;
    }
