use Rattle.std.proofs.Common.{◌≡◌, drop}
use Rattle.rt_tree.specs.Sights as sights
use Rattle.rt_tree.specs.Statements as statements
use Rattle.rt_tree.proofs.fitting.all_seen.Given as goal

abbrev pub invariant-loop-label : goal.invariant-loop-label
invariant-loop-label l = statements.all_seen (sights.labels l.seen_here) (drop l.label-index l.labels) ≡ statements.all_seen (sights.labels l.seen_here) l.labels
