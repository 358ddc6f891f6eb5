use Rattle.std.proofs.Common.{◌≡◌, ℕ, ◌<◌, Some, length, slice_get, take}
use Rattle.rt_tree_nodes.specs.declared.store.Proc.{Proc}
use Rattle.rt_system.specs.declared.parts.Task.{Task}
use Rattle.rt_graph.specs.Scans.{good_root}
use Rattle.rt_graph.proofs.tasks.roots.Given as goal

abbrev pub invariant-loop-number : goal.invariant-loop-number
invariant-loop-number l = record {
  size : length l.roots ≡ l.number;
  each : (i : ℕ) (t : Task) → i < l.number → slice_get l.tasks i ≡ Some t → (f : Proc) × (good_root l.objects (take i l.tasks) t ≡ Some f) × (slice_get l.roots i ≡ Some f);
}
