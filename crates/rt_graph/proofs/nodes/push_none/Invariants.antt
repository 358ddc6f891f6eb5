use Rattle.std.proofs.Common.{◌≡◌, ◌≤◌, ◌-◌, ◌++◌, [], replicate}
use Rattle.rt_graph.proofs.nodes.push_none.Given as goal

abbrev pub invariant-loop : goal.invariant-loop
invariant-loop l = (l.counter ≤ l.count) × (l.graph ++ replicate (l.count - l.counter) [] ≡ l.fn.graph ++ replicate l.count [])
