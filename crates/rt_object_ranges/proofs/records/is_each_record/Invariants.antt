use Rattle.std.proofs.Common.{ℕ, ◌<◌, get_or, length}
use Rattle.rt_modes.specs.declared.mode.RecordDef.{RecordDef}
use Rattle.rt_object.specs.Ranges.{HasRecordRanges}
use Rattle.rt_object_ranges.proofs.records.is_each_record.Given as goal

abbrev pub invariant-loop-definition : goal.invariant-loop-definition
invariant-loop-definition l = (k : ℕ) (d : RecordDef) → k < l.definition-index → HasRecordRanges (length l.records) (get_or l.records k d)
