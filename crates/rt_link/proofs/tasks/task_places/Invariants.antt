use Rattle.std.proofs.Common.{◌≡◌, ℕ, ◌<◌, Some, length}
use Rattle.std.specs.Prelude.{slice_get}
use Rattle.rt_link.specs.Addresses.{block_at}
use Rattle.rt_link.specs.Tables.{task_place}
use Rattle.rt_link.proofs.tasks.task_places.Given as goal

abbrev pub invariant-loop-number : goal.invariant-loop-number
invariant-loop-number l = record {
  one_each : length l.places ≡ l.number;
  block : l.block ≡ block_at l.objects l.stacks l.number;
  each : (n : ℕ) → n < l.number → slice_get l.places n ≡ Some (task_place l.objects l.stacks n);
}
