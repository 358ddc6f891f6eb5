use Rattle.std.proofs.Common.{◌≡◌, ℕ, suc, ◌+◌, Some, List, length}
use Rattle.std.specs.Prelude.{slice_get}
use Rattle.rt_object.specs.declared.object.ObjectParts.{ObjectParts}
use Rattle.rt_link.specs.Addresses.{nth_at}
use Rattle.rt_link.specs.Room.{module_code, module_bytes, module_strings}
use Rattle.rt_link.specs.Rows.{IsBrickRow}
use Rattle.rt_link.proofs.rows.brick_rows.Given as goal

abbrev pub invariant-loop-at : goal.invariant-loop-at
invariant-loop-at l = record {
  one_each : length l.rows ≡ l.at;
  next_code : l.next_code ≡ nth_at module_code l.placed.objects.now l.code l.at;
  next_bytes : l.next_bytes ≡ nth_at module_bytes l.placed.objects.now l.bytes l.at;
  each : (i : ℕ) (o : ObjectParts) (row : List ℕ) → slice_get l.placed.objects.now i ≡ Some o → slice_get l.rows i ≡ Some row →
      IsBrickRow l.placed.objects.now l.placed.stacks.now (suc i) o.bricks (nth_at module_code l.placed.objects.now l.code i) (nth_at module_bytes l.placed.objects.now l.bytes i + module_strings o) row;
}
