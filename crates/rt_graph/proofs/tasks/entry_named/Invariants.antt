use Rattle.std.proofs.Common.{◌≡◌, suc, drop}
use Rattle.rt_graph.specs.Scans.{entry_from}
use Rattle.rt_graph.proofs.tasks.entry_named.Given as goal

abbrev pub invariant-loop-at : goal.invariant-loop-at
invariant-loop-at l = entry_from l.name (suc l.at) (drop l.at l.objects) ≡ entry_from l.name 1 l.objects
