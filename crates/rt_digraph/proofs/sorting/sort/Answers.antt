use Rattle.rt_digraph.proofs.Ends.{whole_order, whole_none}
use Rattle.rt_digraph.proofs.sorting.sort.Goals as goal

pub returns-else-walk : goal.returns-else-walk
returns-else-walk c =
    (whole_order c.args.graph.now c.args.roots.now c.in_ok-walk.walk c.in_ok-walk.ensures c.if-walk.false, whole_none c.args.graph.now c.args.roots.now c.in_ok-walk.walk c.in_ok-walk.ensures c.if-walk.false)
