use Rattle.std.proofs.Common.{◌≡◌, drop}
use Rattle.rt_graph.specs.Sums.{deepest}
use Rattle.rt_graph.proofs.sums.body_need.Given as goal

abbrev pub invariant-loop-call : goal.invariant-loop-call
invariant-loop-call l = deepest l.linked.objects.now l.linked.bindings.now.of l.linked.table.now l.found l.«module» l.object (drop l.call-index l.body.calls) l.deepest ≡ deepest l.linked.objects.now l.linked.bindings.now.of l.linked.table.now l.found l.«module» l.object l.body.calls l.body.deep
