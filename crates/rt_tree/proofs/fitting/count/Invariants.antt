use Rattle.std.proofs.Common.{◌≡◌, drop}
use Rattle.rt_tree.specs.Statements as statements
use Rattle.rt_tree.proofs.fitting.count.Given as goal

abbrev pub invariant-loop-label : goal.invariant-loop-label
invariant-loop-label l = statements.counted l.next (drop l.label-index l.labels) ≡ statements.counted l.first l.labels
