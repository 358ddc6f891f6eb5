use Rattle.std.proofs.Common.{◌+◌, ◌-◌, ◌++◌, arith}
use Rattle.rt_graph.specs.Calls.{brick}
use Rattle.rt_graph.specs.Numbers.{bricks_from}
use Rattle.rt_graph.proofs.Rows.{bricks_more, moved}
use Rattle.rt_graph.proofs.row.push_bricks.Goals as goal

pub loop-brick-preserved : goal.loop-brick-preserved
loop-brick-preserved c =
    let m = c.args.«module» in
    let n = c.args.count in
    let b = c.loop-brick.brick in
    (omega arith, moved c.loop-brick.row c.push.new.self (bricks_from m b (n - b)) (bricks_from m (b + 1) (n - (b + 1))) (c.args.row.now ++ bricks_from m 0 n) (brick m b) c.in_ok-push.ensures.ok (bricks_more m n b (omega arith)) c.loop-brick.invariant.1)
