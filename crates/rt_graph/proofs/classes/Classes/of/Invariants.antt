use Rattle.std.proofs.Common.{◌≡◌, ℕ, ◌<◌, ◌≤◌, List, Option, Some, length, slice_get}
use Rattle.rt_graph.specs.Classes.{AreApart, IsToldOf}
use Rattle.rt_graph.proofs.classes.Classes.of.Given as goal

abbrev pub invariant-loop-text : goal.invariant-loop-text
invariant-loop-text l = record {
  apart : AreApart l.map l.count;
  count : l.count ≤ l.text-index;
  size : length l.of ≡ l.text-index;
  each : (n : ℕ) (t : Option (List ℕ)) → n < l.text-index → slice_get l.texts n ≡ Some t → (c : Option ℕ) × (slice_get l.of n ≡ Some c) × IsToldOf l.map t c;
}
