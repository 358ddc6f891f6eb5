use Rattle.std.proofs.Common.{◌≡◌, drop}
use Rattle.rt_check_bodies.specs.Parts.{labels_more}
use Rattle.rt_check_bodies.proofs.labels.add_labels.Given as goal

abbrev pub invariant-loop-label : goal.invariant-loop-label
invariant-loop-label l = labels_more l.level (drop l.label-index l.labels) l.tally ≡ labels_more l.initial.level l.labels l.initial.tally
