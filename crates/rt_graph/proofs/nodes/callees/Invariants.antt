use Rattle.std.proofs.Common.{◌≡◌, ◌++◌, drop}
use Rattle.rt_graph.specs.Nodes.{callees}
use Rattle.rt_graph.proofs.nodes.callees.Given as goal

abbrev pub invariant-loop-call : goal.invariant-loop-call
invariant-loop-call l = l.nodes ++ callees l.linked.objects.now l.linked.bindings.now.of l.linked.table.now l.«module» l.object (drop l.call-index l.calls) ≡ callees l.linked.objects.now l.linked.bindings.now.of l.linked.table.now l.«module» l.object l.calls
