use Rattle.std.proofs.Common.{◌≡◌, ℕ, ◌<◌, Some, length}
use Rattle.std.specs.Prelude.{slice_get}
use Rattle.rt_link.specs.Addresses.{nth_at}
use Rattle.rt_link.specs.Room.{string_bytes}
use Rattle.rt_link.proofs.rows.string_row.Given as goal

abbrev pub invariant-loop-string : goal.invariant-loop-string
invariant-loop-string l = record {
  one_each : length l.row ≡ l.string-index;
  next : l.next ≡ nth_at string_bytes l.strings l.first l.string-index;
  each : (k : ℕ) → k < l.string-index → slice_get l.row k ≡ Some (nth_at string_bytes l.strings l.first k);
}
