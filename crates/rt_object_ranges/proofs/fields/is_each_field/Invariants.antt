use Rattle.std.proofs.Common.{ℕ, ◌<◌, get_or}
use Rattle.rt_modes.specs.declared.mode.Field.{Field}
use Rattle.rt_object_ranges.specs.Parts.{HasFieldRanges}
use Rattle.rt_object_ranges.proofs.fields.is_each_field.Given as goal

abbrev pub invariant-loop-field : goal.invariant-loop-field
invariant-loop-field l = (k : ℕ) (d : Field) → k < l.field-index → HasFieldRanges l.records l.labels (get_or l.fields k d)
