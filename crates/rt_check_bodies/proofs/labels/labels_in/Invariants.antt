use Rattle.std.proofs.Common.{◌≡◌, [], drop}
use Rattle.rt_check_bodies.specs.Parts as spec
use Rattle.rt_check_bodies.proofs.labels.labels_in.Given as goal

abbrev pub invariant-loop-label : goal.invariant-loop-label
invariant-loop-label l = spec.labels_in l.names l.numbers (drop l.label-index l.labels) l.tally ≡ spec.labels_in l.names [] l.labels l.initial.tally
