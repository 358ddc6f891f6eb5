use Rattle.std.proofs.Common.{arith}
use Rattle.rt_link.specs.Room.{code_bytes}
use Rattle.rt_link.proofs.Summed.{sum_room, sum_end, code_most}
use Rattle.rt_link.proofs.sums.module_code.Goals as goal

pub overflow_add-total : goal.overflow_add-total
overflow_add-total c =
    let o = c.args.object.now in
    let h = sum_room code_bytes c.as_slice-brick-items.result.now o.bricks c.loop-brick.brick-index c.brick-item.result 3758039040 c.as_slice-brick-items.ensures (code_most o c.requires) c.loop-brick-test.true c.brick-item.is in
    omega arith

pub returns-clause-small : goal.returns-clause-small
returns-clause-small c =
    let o = c.args.object.now in
    let h = sum_end code_bytes c.as_slice-brick-items.result.now o.bricks c.loop-brick.brick-index 3758039040 c.as_slice-brick-items.ensures (code_most o c.requires) in
    omega arith
