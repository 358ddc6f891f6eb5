-- How Held and May move where control comes from one point to another without a step.
use Rattle.std.specs.Prelude.{ℕ, List}
use Rattle.rt_tree_nodes.specs.declared.store.Proc.{Proc}
use Rattle.rt_tree.specs.Stored.{System}
use Rattle.rt_resolve.specs.Systems.{world}
use Rattle.rt_guarded.specs.Points.{Point}
use Rattle.rt_guards_laws.specs.Ways.{Comes}
use Rattle.rt_guarded.specs.Families.{Family, In, Stands, KeepsHeld, KeepsMay}

-- control comes to points of the procedure alone
abbrev pub ComesToPoints : Type 0
ComesToPoints = (ps : System) (rs : List Proc) (f : Proc) (t u : Point) → Stands ps rs f t → Comes ((world ps).env f.module) t u → Stands ps rs f u

-- Held doesn't grow
abbrev pub HeldDrops : Type 0
HeldDrops = (ps : System) (rs : List Proc) (H : Family) (f : Proc) (t u : Point) → KeepsHeld ps rs H → Stands ps rs f t → Comes ((world ps).env f.module) t u → (n : ℕ) → In H f u n → In H f t n

-- May loses nothing
abbrev pub MayGrows : Type 0
MayGrows = (ps : System) (rs : List Proc) (M : Family) (f : Proc) (t u : Point) → KeepsMay ps rs M → Stands ps rs f t → Comes ((world ps).env f.module) t u → (n : ℕ) → In M f t n → In M f u n
