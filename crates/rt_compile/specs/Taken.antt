-- The numbers of the procedures that stand as values or as starts, each once and rising.
use Rattle.std.specs.Prelude.{◌≡◌, ◌↔◌, ℕ, List, Some, slice_get}
use Rattle.rt_object.specs.Ranges.{Rise}
use Rattle.rt_tree.specs.Taken.{taken}
use Rattle.rt_tree_nodes.specs.declared.brick.ModuleParts.{ModuleParts}

-- a number stands in a list
abbrev pub Has : List ℕ → ℕ → Type 0
Has ns k = (i : ℕ) × (slice_get ns i ≡ Some k)

-- those of a module; a name that is only called isn't one, one that no way reaches is
pub record AreTaken (p : ModuleParts) (ns : List ℕ) : Type 0 where
  pub rise : Rise ns
  pub each : (k : ℕ) → Has ns k ↔ Has (taken p) k
