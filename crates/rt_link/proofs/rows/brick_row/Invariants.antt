use Rattle.std.proofs.Common.{◌≡◌, ℕ, ◌<◌, Some, length}
use Rattle.std.specs.Prelude.{slice_get}
use Rattle.rt_graph.specs.Calls.{brick, content_at}
use Rattle.rt_link.specs.Addresses.{nth_at, address_by, stack_address}
use Rattle.rt_link.specs.Room.{code_bytes, data_bytes}
use Rattle.rt_link.proofs.rows.brick_row.Given as goal

abbrev pub invariant-loop-number : goal.invariant-loop-number
invariant-loop-number l = record {
  one_each : length l.row ≡ l.number;
  next_code : l.next_code ≡ nth_at code_bytes l.bricks l.code l.number;
  next_bytes : l.next_bytes ≡ nth_at data_bytes l.bricks l.bytes l.number;
  each : (b : ℕ) → b < l.number →
      slice_get l.row b ≡ Some (address_by (content_at (slice_get l.bricks b)) (nth_at code_bytes l.bricks l.code b) (nth_at data_bytes l.bricks l.bytes b) (stack_address l.placed.objects.now l.placed.stacks.now (brick l.«module» b)));
}
