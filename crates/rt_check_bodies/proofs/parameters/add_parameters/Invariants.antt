use Rattle.std.proofs.Common.{◌≡◌, drop}
use Rattle.rt_check_bodies.specs.Procedures as spec
use Rattle.rt_check_bodies.proofs.parameters.add_parameters.Given as goal

abbrev pub invariant-loop-group : goal.invariant-loop-group
invariant-loop-group l = spec.parameters l.names l.level (drop l.group-index l.fields) l.tally ≡ spec.parameters l.names l.initial.level l.fields l.initial.tally
