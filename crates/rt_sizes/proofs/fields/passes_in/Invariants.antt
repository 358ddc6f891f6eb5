use Rattle.std.proofs.Common.{◌≡◌, drop}
use Rattle.rt_sizes.specs.Capped as spec
use Rattle.rt_sizes.specs.declared.size.Size.TheVariants as sizes
use Rattle.rt_sizes.proofs.fields.passes_in.Given as goal

abbrev pub invariant-loop-number : goal.invariant-loop-number
invariant-loop-number l = spec.passes_in l.sizes (drop l.number l.fields) l.end l.number ≡ spec.passes_in l.sizes l.fields (sizes.Bytes 0) 0
