-- The verdict on guarded data: the first test that fails, and by what it fails first; or that none does.
use Rattle.std.specs.Prelude.{◌≡◌, ◌⊎◌, ℕ, ◌<◌, List, ◌∷◌, ◌++◌, Bool, true}
use Rattle.std.specs.List.{AllByRecursion}
use Rattle.rt_tree_nodes.specs.declared.store.Proc.{Proc}
use Rattle.rt_tree.specs.Stored.{System}
use Rattle.rt_guarded.specs.Families.{Family, IsHeld, IsMay}
use Rattle.rt_guarded.specs.Tests.{Guard, HasBadArgument, ArgumentsAreNumbers, IsTaken, HasReference, AreUnreferenced, HasBadAccess, AreGuarded, HasBadOrder, Passes}

-- lines are those of the script
pub data Verdict : Type 0 where
  Yes : Verdict
  Argument : (f : Proc) → Verdict
  Taken : Verdict
  Reference : (line : ℕ) → Verdict
  Access : (line : ℕ) (f : Proc) → Verdict
  Order : (f : Proc) → Verdict

-- by module and declaration
abbrev pub IsBefore : Proc → Proc → Type 0
IsBefore f g = (f.module < g.module) ⊎ ((f.module ≡ g.module) × (f.brick < g.brick))

-- the first procedure that fails
pub record IsFirst (Fails : Proc → Type 0) (f : Proc) : Type 0 where
  pub fails : Fails f
  pub before : (g : Proc) → IsBefore g f → Fails g → ⊥

-- the first of the guards that fails
pub record IsFirstGuard (Fails : Guard → Type 0) (guards : List Guard) (g : Guard) : Type 0 where
  pub front : List Guard
  pub rest : List Guard
  pub parts : guards ≡ front ++ g ∷ rest
  pub fails : Fails g
  pub before : AllByRecursion (λ h. Fails h → ⊥) front

module _ (ps : System) (rs : List Proc) (guards : List Guard) (order : Bool) where
  -- the first access that isn't guarded
  pub record IsFirstAccess (line : ℕ) (f : Proc) : Type 0 where
    pub held : Family
    pub is_held : IsHeld ps rs held
    pub guard : Guard
    pub first_guard : IsFirstGuard (λ g. (h : Proc) × HasBadAccess ps rs held g h) guards guard
    pub line_is : line ≡ guard.line
    pub first : IsFirst (HasBadAccess ps rs held guard) f

  -- all accesses are guarded, and facilities are taken out of order
  pub record IsFirstOrder (f : Proc) : Type 0 where
    pub held : Family
    pub is_held : IsHeld ps rs held
    pub guarded : AreGuarded ps rs held guards
    pub asked : order ≡ true
    pub may : Family
    pub is_may : IsMay ps rs may
    pub first : IsFirst (HasBadOrder ps rs may) f

  abbrev pub IsVerdict : Verdict → Type 0
  IsVerdict Yes = Passes ps rs guards order
  IsVerdict (Argument f) = IsFirst (HasBadArgument ps rs) f
  IsVerdict Taken = ArgumentsAreNumbers ps rs × IsTaken ps rs
  IsVerdict (Reference line) = ArgumentsAreNumbers ps rs × (IsTaken ps rs → ⊥) × ((g : Guard) × IsFirstGuard (HasReference ps rs) guards g × (line ≡ g.line))
  IsVerdict (Access line f) = ArgumentsAreNumbers ps rs × (IsTaken ps rs → ⊥) × AreUnreferenced ps rs guards × IsFirstAccess line f
  IsVerdict (Order f) = ArgumentsAreNumbers ps rs × (IsTaken ps rs → ⊥) × AreUnreferenced ps rs guards × IsFirstOrder f
