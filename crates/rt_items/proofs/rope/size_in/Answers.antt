use Rattle.std.proofs.Common.{sym, ap, length}
use Rattle.rt_items.proofs.Ropes.{none_is, size_some}
use Rattle.rt_items.proofs.rope.size_in.Goals as goal

pub returns-in-None : goal.returns-in-None
returns-in-None c = ap length (sym (none_is c.args.nodes.now c.args.at (sym c.in-None.ensures.value)))

pub returns-in-Some : goal.returns-in-Some
returns-in-Some c = size_some c.args.nodes.now c.args.at c.requires c.in-Some.node.now c.node_size.result c.in-Some.ensures.value c.node_size.ensures
