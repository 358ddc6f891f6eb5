use Rattle.std.proofs.Common.{◌≡◌, ◌++◌, map, drop}
use Rattle.rt_graph.specs.Nodes.{nodes_of}
use Rattle.rt_graph.proofs.nodes.push_bricks.Given as goal

abbrev pub invariant-loop-of : goal.invariant-loop-of
invariant-loop-of l = l.graph ++ map (nodes_of l.linked.objects.now l.linked.bindings.now.of l.linked.table.now) (drop l.of-index l.linked.table.now.row.bricks) ≡ l.fn.graph ++ map (nodes_of l.linked.objects.now l.linked.bindings.now.of l.linked.table.now) l.linked.table.now.row.bricks
