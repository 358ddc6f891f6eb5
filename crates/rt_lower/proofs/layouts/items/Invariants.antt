use Rattle.std.proofs.Common.{◌≡◌, ℕ, List, Some, length}
use Rattle.std.specs.Prelude.{slice_get}
use Rattle.rt_tree_nodes.specs.declared.brick.Brick.{Brick}
use Rattle.rt_sizes.specs.Capped.{AreSizes}
use Rattle.rt_sizes.specs.Sizes.{Table}
use Rattle.rt_lower.specs.Layouts.{ItemsBegin}
use Rattle.rt_lower.proofs.layouts.items.Given as goal

abbrev pub invariant-loop-brick : goal.invariant-loop-brick
invariant-loop-brick l = record {
  each : length l.rows ≡ l.brick-index;
  right : (t : Table) → AreSizes t l.sizes → (k : ℕ) (x : Brick) (ns : List ℕ) → slice_get l.bricks k ≡ Some x → slice_get l.rows k ≡ Some ns → ItemsBegin t x ns;
}
