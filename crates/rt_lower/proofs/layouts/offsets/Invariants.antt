use Rattle.std.proofs.Common.{◌≡◌, ℕ, Some, length, take}
use Rattle.std.specs.Prelude.{slice_get}
use Rattle.rt_sizes.specs.Capped.{AreSizes}
use Rattle.rt_sizes.specs.Sizes.{Table, Begins, End}
use Rattle.rt_lower.proofs.layouts.offsets.Given as goal

abbrev pub invariant-loop-k : goal.invariant-loop-k
invariant-loop-k l = record {
  each : length l.made ≡ l.k;
  begin : (t : Table) → AreSizes t l.sizes → (j n : ℕ) → slice_get l.made j ≡ Some n → Begins t l.fields j n;
  end : (t : Table) → AreSizes t l.sizes → End t (take l.k l.fields) l.end;
}
