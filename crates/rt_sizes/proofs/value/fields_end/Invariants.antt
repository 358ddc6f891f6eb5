use Rattle.std.proofs.Common.{◌≡◌, drop}
use Rattle.rt_sizes.specs.Capped as spec
use Rattle.rt_sizes.proofs.value.fields_end.Given as goal

abbrev pub invariant-loop-field : goal.invariant-loop-field
invariant-loop-field l = spec.fields_end l.sizes (drop l.field-index l.fields) l.end ≡ spec.fields_end l.sizes l.fields l.fn.before
