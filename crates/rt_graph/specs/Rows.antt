-- The row of a system as it is kept.
use Rattle.std.specs.Prelude.{◌≡◌, ℕ, ◌+◌, ◌<◌, ◌≤◌, ◌*◌, List, length, Some, slice_get}
use Rattle.rt_object.specs.declared.object.ObjectParts.{ObjectParts}
use Rattle.rt_graph.specs.Numbers.{all_bricks, before}
use Rattle.rt_graph.specs.declared.row.Row.{Row}

-- of each module the number of its first brick, which is small
pub record AreFirsts (objects : List ObjectParts) (firsts : List ℕ) : Type 0 where
  pub size : length firsts ≡ length objects
  pub each : (m : ℕ) → m < length objects → slice_get firsts m ≡ Some (11 + before objects m)
  pub small : (m : ℕ) → m < length objects → before objects m ≤ 65535 * m

pub record IsRow (objects : List ObjectParts) (row : Row) : Type 0 where
  pub bricks : row.bricks ≡ all_bricks objects
  pub firsts : AreFirsts objects row.firsts
