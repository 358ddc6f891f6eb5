use Rattle.std.proofs.Common.{◌≡◌, drop}
use Rattle.rt_graph.specs.Classes.{grouped}
use Rattle.rt_graph.specs.Nodes.{total}
use Rattle.rt_graph.proofs.nodes.group.Given as goal

abbrev pub invariant-loop-number : goal.invariant-loop-number
invariant-loop-number l = grouped (total l.table) l.number (drop l.number l.of) l.graph.items ≡ grouped (total l.table) 0 l.of l.fn.graph.items
