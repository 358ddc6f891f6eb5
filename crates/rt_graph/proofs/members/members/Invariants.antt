use Rattle.std.proofs.Common.{◌≡◌, ◌++◌, drop}
use Rattle.rt_graph.specs.Candidates.{members}
use Rattle.rt_graph.specs.Nodes.{total}
use Rattle.rt_graph.proofs.members.members.Given as goal

abbrev pub invariant-loop-number : goal.invariant-loop-number
invariant-loop-number l = l.members ++ members (total l.table) l.node l.table.classes.of l.number (drop l.number l.row) ≡ members (total l.table) l.node l.table.classes.of 0 l.row
