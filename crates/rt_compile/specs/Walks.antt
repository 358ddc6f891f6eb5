-- The way over a module: the code of its procedures is taken in the order of its bricks, and the parts of its object are put together.
use Rattle.std.specs.Prelude.{◌≡◌, ℕ, ◌+◌, List, [], ◌∷◌, Option, Some, None}
use Rattle.rt_tree_nodes.specs.declared.brick.Brick.{Brick}
use Rattle.rt_tree_nodes.specs.declared.brick.BrickSort.{BrickSort}
use Rattle.rt_tree_nodes.specs.declared.brick.BrickSort.TheVariants as sort
use Rattle.rt_tree_nodes.specs.declared.brick.ModuleParts.{ModuleParts}
use Rattle.rt_object.specs.declared.object.Brick.{Brick as Compiled}
use Rattle.rt_object.specs.declared.object.ObjectParts.{ObjectParts}
use Rattle.rt_lower.specs.declared.layouts.Layouts.{Layouts}
use Rattle.rt_templates.specs.declared.code.ProcCode.{ProcCode}
use Rattle.rt_compile.specs.Taken.{AreTaken}
use Rattle.rt_compile.specs.Objects.{brick_by}

abbrev pub head : List ProcCode → Option ProcCode
head [] = None
head (c ∷ cs) = Some c

abbrev pub tail : List ProcCode → List ProcCode
tail [] = []
tail (c ∷ cs) = cs

-- the code of a brick, where it is an own or ENT procedure: the first of what is left
abbrev pub first : BrickSort → List ProcCode → Option ProcCode
first (sort.Proc m (Some b)) cs = head cs
first _ cs = None

-- what is left behind a brick
abbrev pub behind : BrickSort → List ProcCode → List ProcCode
behind (sort.Proc m (Some b)) cs = tail cs
behind _ cs = cs

-- the bricks from number k on, by the code that is left
abbrev pub compiled : Layouts → ModuleParts → ℕ → List Brick → List ProcCode → List (Option Compiled)
compiled l p k [] cs = []
compiled l p k (d ∷ ds) cs = brick_by l p k d (first d.sort cs) ∷ compiled l p (k + 1) ds (behind d.sort cs)

-- the object of a module with these bricks
pub record IsJoined (p : ModuleParts) (bs : List Compiled) (o : ObjectParts) : Type 0 where
  pub title : o.title ≡ p.title
  pub records : o.records ≡ p.modes
  pub strings : o.strings ≡ p.strings
  pub bricks : o.bricks ≡ bs
  pub taken : AreTaken p o.taken
