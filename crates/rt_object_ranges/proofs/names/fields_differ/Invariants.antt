use Rattle.std.proofs.Common.{take}
use Rattle.rt_object.specs.Known.{Knows}
use Rattle.rt_object.specs.Ranges.{AreDifferent, field_names}
use Rattle.rt_object_ranges.proofs.names.fields_differ.Given as goal

-- The names so far are known, and differ.
abbrev pub invariant-loop-field : goal.invariant-loop-field
invariant-loop-field l = record {
  known : Knows l.names (take l.field-index (field_names l.fields));
  differ : AreDifferent (take l.field-index (field_names l.fields));
}
