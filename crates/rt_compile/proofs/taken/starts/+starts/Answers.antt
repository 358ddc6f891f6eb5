use Rattle.std.proofs.Common.{◌∙◌}
use Rattle.rt_tree.specs.Taken.{in_start}
use Rattle.rt_compile.proofs.Marking.{one_more}
use Rattle.rt_compile.proofs.taken.starts.+starts.Goals as goal

pub starts-loop-one-preserved : goal.starts-loop-one-preserved
starts-loop-one-preserved t c =
    one_more in_start c.args.all.now c.loop-one.one-index c.one-item.result c.loop-one.marks c.start.new.marks c.loop-one-test.true c.one-item.is c.in_ok-start.ensures ∙ c.loop-one.invariant
