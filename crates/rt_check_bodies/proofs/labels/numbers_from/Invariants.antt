use Rattle.std.proofs.Common.{◌≡◌, [], drop}
use Rattle.rt_check_bodies.specs.Parts as spec
use Rattle.rt_check_bodies.proofs.labels.numbers_from.Given as goal

abbrev pub invariant-loop-label : goal.invariant-loop-label
invariant-loop-label l = spec.numbers_from l.numbers l.next (drop l._label-index l.labels) ≡ spec.numbers_from [] l.first l.labels
