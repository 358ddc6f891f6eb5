use Rattle.std.proofs.Common.{◌≡◌, ℕ, Some, length}
use Rattle.std.specs.Prelude.{slice_get}
use Rattle.rt_sizes.specs.declared.size.Size.TheVariants as size
use Rattle.rt_lower.proofs.layouts.known_sizes.Given as goal

abbrev pub invariant-loop-size : goal.invariant-loop-size
invariant-loop-size l = record {
  each : length l.made ≡ l.size-index;
  same : (k n : ℕ) → slice_get l.made k ≡ Some n → slice_get l.sizes k ≡ Some (Some (size.Bytes n));
}
