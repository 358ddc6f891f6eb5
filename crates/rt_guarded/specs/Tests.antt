-- The five tests of guarded data, each by what fails it, and what it means that all are passed.
use Rattle.std.specs.Prelude.{◌≡◌, ◌⊎◌, ℕ, ◌≤◌, List, Bool, true, Option, Some, None}
use Rattle.std.specs.List.{Contains}
use Rattle.rt_tree_nodes.specs.declared.brick.ModuleParts.{ModuleParts}
use Rattle.rt_tree_nodes.specs.declared.store.Proc.{Proc}
use Rattle.rt_tree.specs.Stored.{System, module_of}
use Rattle.rt_tree.specs.Taken.{taken}
use Rattle.rt_resolve.specs.Systems.{world}
use Rattle.rt_guarded.specs.References.{referred}
use Rattle.rt_guarded.specs.Points.{Point, Reads, Writes, Calls}
use Rattle.rt_guarded.specs.Graph.{secure, release}
use Rattle.rt_guarded.specs.Families.{Family, In, IsHeld, IsMay, Stands, CalledAt}

-- a data brick, the facility that guards it, and the line of the script that says so
pub record Guard : Type 0 where
  pub brick : Proc
  pub facility : ℕ
  pub line : ℕ

-- a number from 1 to 32
abbrev pub IsFacility : Option ℕ → Type 0
IsFacility None = ⊥
IsFacility (Some n) = (1 ≤ n) × (n ≤ 32)

-- the point's step reads or writes an item of the brick
pub data Touches (g : Proc) : Point → Type 0 where
  reads : {k : Point} → Touches g (Reads (Some g) k)
  writes : {k : Point} → Touches g (Writes (Some g) k)

module _ (ps : System) (rs : List Proc) where
  -- a reached procedure calls SECURE or RELEASE by name, with an argument that is no number from 1 to 32
  abbrev pub HasBadArgument : Proc → Type 0
  HasBadArgument f = (a : Option ℕ) × (k : Point) × (Stands ps rs f (Calls secure a k) ⊎ Stands ps rs f (Calls release a k)) × (IsFacility a → ⊥)

  abbrev pub ArgumentsAreNumbers : Type 0
  ArgumentsAreNumbers = (f : Proc) → HasBadArgument f → ⊥

  -- one of these bricks, as the number in some module, stands for g
  abbrev pub AmongThese : (ModuleParts → List ℕ) → Proc → Type 0
  AmongThese these g = (m : ℕ) × (p : ModuleParts) × (b : ℕ) × (module_of ps m ≡ Some p) × Contains (these p) b × (((world ps).env m).leads b ≡ g)

  -- the name of SECURE or RELEASE stands as a value or start
  abbrev pub IsTaken : Type 0
  IsTaken = AmongThese taken secure ⊎ AmongThese taken release

  -- a value or start is a reference to a place of the guarded brick
  abbrev pub HasReference : Guard → Type 0
  HasReference g = AmongThese referred g.brick

  abbrev pub AreUnreferenced : List Guard → Type 0
  AreUnreferenced guards = (g : Guard) → Contains guards g → HasReference g → ⊥

  -- a step of a reached procedure touches the guarded brick where its facility isn't held
  abbrev pub HasBadAccess : Family → Guard → Proc → Type 0
  HasBadAccess H g f = (t : Point) × Stands ps rs f t × Touches g.brick t × (In H f t g.facility → ⊥)

  abbrev pub AreGuarded : Family → List Guard → Type 0
  AreGuarded H guards = (g : Guard) → Contains guards g → (f : Proc) → HasBadAccess H g f → ⊥

  -- a reached procedure calls SECURE(n) where a number may be held that isn't below n
  abbrev pub HasBadOrder : Family → Proc → Type 0
  HasBadOrder M f = (t : Point) × (n : ℕ) × (m : ℕ) × CalledAt ps rs f t secure (Some n) × In M f t m × (n ≤ m)

  abbrev pub IsRising : Family → Type 0
  IsRising M = (f : Proc) → HasBadOrder M f → ⊥

  -- All tests are passed: the answer is YES.
  pub record Passes (guards : List Guard) (order : Bool) : Type 0 where
    pub held : Family
    pub is_held : IsHeld ps rs held
    pub may : Family
    pub is_may : IsMay ps rs may
    pub arguments : ArgumentsAreNumbers
    pub taken : IsTaken → ⊥
    pub references : AreUnreferenced guards
    pub accesses : AreGuarded held guards
    pub rises : order ≡ true → IsRising may
