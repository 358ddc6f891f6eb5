use Rattle.std.proofs.Common.{take}
use Rattle.rt_object.specs.Known.{Knows}
use Rattle.rt_object.specs.Ranges.{AreDifferent, record_names}
use Rattle.rt_object_ranges.proofs.names.records_differ.Given as goal

-- The names so far are known, and differ.
abbrev pub invariant-loop-definition : goal.invariant-loop-definition
invariant-loop-definition l = record {
  known : Knows l.names (take l.definition-index (record_names l.records));
  differ : AreDifferent (take l.definition-index (record_names l.records));
}
