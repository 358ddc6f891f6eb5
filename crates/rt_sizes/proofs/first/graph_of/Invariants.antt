use Rattle.std.proofs.Common.{◌≡◌, ◌++◌, drop}
use Rattle.rt_sizes.specs.Rings.{graph_of}
use Rattle.rt_sizes.proofs.first.graph_of.Given as goal

abbrev pub invariant-loop-record : goal.invariant-loop-record
invariant-loop-record l = l.graph ++ graph_of (drop l.record-index l.records) ≡ graph_of l.records
