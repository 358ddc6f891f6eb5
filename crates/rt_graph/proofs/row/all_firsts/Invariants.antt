use Rattle.std.proofs.Common.{◌≡◌, ℕ, ◌+◌, ◌*◌, ◌<◌, ◌≤◌, Some, length, slice_get}
use Rattle.rt_graph.specs.Numbers.{before}
use Rattle.rt_graph.proofs.row.all_firsts.Given as goal

abbrev pub invariant-loop-at : goal.invariant-loop-at
invariant-loop-at l = record {
  first : l.first ≡ 11 + before l.objects l.at;
  size : length l.firsts ≡ l.at;
  small : before l.objects l.at ≤ 65535 * l.at;
  each : (m : ℕ) → m < l.at → (slice_get l.firsts m ≡ Some (11 + before l.objects m)) × (before l.objects m ≤ 65535 * m);
}
