use Rattle.std.proofs.Common.{◌≡◌, ◌-◌, length}
use Rattle.rt_lower.specs.Drafts.{grown}
use Rattle.rt_lower.proofs.draft.grow.Given as goal

abbrev pub invariant-loop-labels : goal.invariant-loop-labels
invariant-loop-labels l = grown l.count l.labels ≡ grown l.count l.initial.labels

abbrev pub decreases-loop-labels : goal.decreases-loop-labels
decreases-loop-labels l = l.count - length l.labels
