use Rattle.std.proofs.Common.{◌≡◌, drop}
use Rattle.rt_sizes.specs.Reaching.{reach, visit}
use Rattle.rt_sizes.proofs.contain.visit_fields.Given as goal

abbrev pub invariant-loop-field : goal.invariant-loop-field
invariant-loop-field l = visit (drop l.field-index l.fields) (reach l.marks l.waiting) ≡ visit l.fields (reach l.initial.marks l.initial.waiting)
