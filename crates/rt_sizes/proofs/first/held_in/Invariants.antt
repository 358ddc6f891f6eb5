use Rattle.std.proofs.Common.{◌≡◌, ◌++◌, drop}
use Rattle.rt_sizes.specs.Rings.{held_in}
use Rattle.rt_sizes.proofs.first.held_in.Given as goal

abbrev pub invariant-loop-field : goal.invariant-loop-field
invariant-loop-field l = l.inner ++ held_in (drop l.field-index l.fields) ≡ held_in l.fields
