use Rattle.std.proofs.Common.{◌≡◌, ◌+◌, length, drop, arith}
use Rattle.rt_report.proofs.ListingLines.{bricks_more, bricks_all, next_brick, no_brick}
use Rattle.rt_report.proofs.listings.put_bricks.Goals as goal

pub loop-brick-preserved : goal.loop-brick-preserved
loop-brick-preserved c =
    let now = next_brick c.args.table.now c.args.bricks.now c.loop-brick.brick-index c.brick-item.result c.args.out.now.items c.loop-brick.out.items c.loop-brick-test.true c.brick-item.is c.loop-brick.invariant in
    bricks_more c.args.table.now c.args.bricks.now (drop (c.loop-brick.brick-index + 1) c.args.bricks.now) c.brick-item.result c.args.out.now.items c.loop-brick.out.items c.put_brick.new.out.items now c.in_ok-put_brick.ensures

pub returns : goal.returns
returns c =
    let is_end : c.loop-brick.brick-index ≡ length c.args.bricks.now = omega arith in
    bricks_all c.args.table.now c.args.bricks.now c.args.out.now.items c.loop-brick.out.items
    (no_brick c.args.table.now c.args.bricks.now c.loop-brick.brick-index c.args.out.now.items c.loop-brick.out.items is_end c.loop-brick.invariant)
