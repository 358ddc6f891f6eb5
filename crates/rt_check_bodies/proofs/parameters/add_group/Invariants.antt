use Rattle.std.proofs.Common.{◌≡◌, drop}
use Rattle.rt_check_bodies.specs.Procedures as spec
use Rattle.rt_check_bodies.proofs.parameters.add_group.Given as goal

abbrev pub invariant-loop-name : goal.invariant-loop-name
invariant-loop-name l = spec.group l.mode l.level (drop l.name-index l.names) l.tally ≡ spec.group l.mode l.initial.level l.names l.initial.tally
