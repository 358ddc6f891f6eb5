use Rattle.std.proofs.Common.{◌≡◌, drop}
use Rattle.rt_check_module.specs.Defaults as spec
use Rattle.rt_check_module.proofs.defaults.all_have.Given as goal

abbrev pub invariant-loop-field : goal.invariant-loop-field
invariant-loop-field l = spec.all_have (spec.listed l.known) (drop l.field-index l.fields) ≡ spec.all_have (spec.listed l.known) l.fields
