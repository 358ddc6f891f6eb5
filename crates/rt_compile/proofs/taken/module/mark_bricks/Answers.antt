use Rattle.std.proofs.Common.{◌∙◌}
use Rattle.rt_tree.specs.Taken.{in_brick}
use Rattle.rt_compile.proofs.Marking.{one_more}
use Rattle.rt_compile.proofs.taken.module.mark_bricks.Goals as goal

pub loop-brick-preserved : goal.loop-brick-preserved
loop-brick-preserved c =
    let there = rw (c.as_slice-brick-items.ensures, c.bricks.ensures) at c.loop-brick-test.true in
    one_more (in_brick c.args.module.now) c.args.module.now.bricks c.loop-brick.brick-index c.brick-item.result c.loop-brick.marks c.mark_brick.new.marks there (rw (c.as_slice-brick-items.ensures, c.bricks.ensures) at c.brick-item.is) c.in_ok-mark_brick.ensures ∙ c.loop-brick.invariant
