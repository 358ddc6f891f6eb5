use Rattle.std.proofs.Common.{◌≡◌, ◌++◌, drop}
use Rattle.rt_graph.specs.Sums.{needs_of}
use Rattle.rt_graph.proofs.sums.needs_of.Given as goal

abbrev pub invariant-loop-of : goal.invariant-loop-of
invariant-loop-of l = l.needs ++ needs_of l.linked.objects.now l.linked.bindings.now.of l.linked.table.now (drop l.of-index l.procs) l.found ≡ needs_of l.linked.objects.now l.linked.bindings.now.of l.linked.table.now l.procs l.fn.found
