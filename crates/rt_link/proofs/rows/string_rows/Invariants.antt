use Rattle.std.proofs.Common.{◌≡◌, ℕ, Some, List, length}
use Rattle.std.specs.Prelude.{slice_get}
use Rattle.rt_object.specs.declared.object.ObjectParts.{ObjectParts}
use Rattle.rt_link.specs.Addresses.{nth_at}
use Rattle.rt_link.specs.Room.{module_bytes}
use Rattle.rt_link.specs.Rows.{IsStringRow}
use Rattle.rt_link.proofs.rows.string_rows.Given as goal

abbrev pub invariant-loop-object : goal.invariant-loop-object
invariant-loop-object l = record {
  one_each : length l.rows ≡ l.object-index;
  next : l.next ≡ nth_at module_bytes l.objects l.start l.object-index;
  each : (i : ℕ) (o : ObjectParts) (row : List ℕ) → slice_get l.objects i ≡ Some o → slice_get l.rows i ≡ Some row → IsStringRow o.strings (nth_at module_bytes l.objects l.start i) row;
}
