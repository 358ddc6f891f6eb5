use Rattle.std.proofs.Common.{arith}
use Rattle.rt_link.specs.Room.{string_bytes}
use Rattle.rt_link.proofs.Summed.{sum_room, sum_end, strings_most}
use Rattle.rt_link.proofs.sums.module_strings.Goals as goal

pub overflow_add-total : goal.overflow_add-total
overflow_add-total c =
    let o = c.args.object.now in
    let h = sum_room string_bytes c.as_slice-string-items.result.now o.strings c.loop-string.string-index c.string-item.result 3758039040 c.as_slice-string-items.ensures (strings_most o c.requires) c.loop-string-test.true c.string-item.is in
    omega arith

pub returns-clause-small : goal.returns-clause-small
returns-clause-small c =
    let o = c.args.object.now in
    let h = sum_end string_bytes c.as_slice-string-items.result.now o.strings c.loop-string.string-index 3758039040 c.as_slice-string-items.ensures (strings_most o c.requires) in
    omega arith
