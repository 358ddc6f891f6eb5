use Rattle.std.proofs.Common.{◌≡◌, ℕ, List, Some, length}
use Rattle.std.specs.Prelude.{slice_get}
use Rattle.rt_modes.specs.declared.mode.RecordDef.{RecordDef}
use Rattle.rt_sizes.specs.Capped.{AreSizes}
use Rattle.rt_sizes.specs.Sizes.{Table}
use Rattle.rt_lower.specs.Layouts.{FieldsBegin}
use Rattle.rt_lower.proofs.layouts.fields.Given as goal

abbrev pub invariant-loop-record : goal.invariant-loop-record
invariant-loop-record l = record {
  each : length l.rows ≡ l.record-index;
  right : (t : Table) → AreSizes t l.sizes → (k : ℕ) (x : RecordDef) (ns : List ℕ) → slice_get l.records k ≡ Some x → slice_get l.rows k ≡ Some ns → FieldsBegin t x ns;
}
