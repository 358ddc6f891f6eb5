use Rattle.std.proofs.Common.{◌≡◌, ◌++◌, drop}
use Rattle.rt_graph.specs.Nodes.{bricks_at}
use Rattle.rt_graph.proofs.sorting.bricks_at.Given as goal

abbrev pub invariant-loop-node : goal.invariant-loop-node
invariant-loop-node l = l.bricks ++ bricks_at l.row (drop l.node-index l.nodes) ≡ bricks_at l.row l.nodes
