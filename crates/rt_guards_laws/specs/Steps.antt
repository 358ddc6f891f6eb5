-- One visible step of an activation that stands at a point, whatever its values and locals are: where it stands then, and how Held
-- and May bound what stands there. What a call and a return do to other activations is no part of this.
use Rattle.std.specs.Prelude.{◌≡◌, ℕ, suc, List, Option, Some}
use Rattle.rt_tree_nodes.specs.declared.store.Datum.{Datum}
use Rattle.rt_tree_nodes.specs.declared.store.Proc.{Proc}
use Rattle.rt_tree.specs.Stored.{System}
use Rattle.rt_work_state.specs.Items.{Item, Next, Reads, Writes, Calls, Returns, Jumps, Leaps, Asks, Recovers, Errors, Lacks}
use Rattle.rt_work.specs.Task.{next}
use Rattle.rt_resolve.specs.World.{Code}
use Rattle.rt_resolve.specs.Systems.{world}
use Rattle.rt_meaning.specs.Step.{leapt}
use Rattle.rt_guarded.specs.Points.{Point, ReturnsAt}
use Rattle.rt_guarded.specs.Points as p
use Rattle.rt_guarded.specs.Graph.{label}
use Rattle.rt_guards_laws.specs.Ways.{CallsTo, Follows}
use Rattle.rt_guarded.specs.Families.{Family, In, Stands, KeepsHeld, KeepsMay}

module _ (ps : System) (rs : List Proc) (H M : Family) (f : Proc) where
  -- from t to u Held doesn't grow, and May loses nothing
  abbrev pub Bounds : Point → Point → Type 0
  Bounds t u = ((n : ℕ) → In H f u n → In H f t n) × ((n : ℕ) → In M f t n → In M f u n)

  -- it comes from t to w, with these bounds
  pub record ComesTo (t w : Point) : Type 0 where
    pub stands : Stands ps rs f w
    pub bounds : Bounds t w

module _ (ps : System) (rs : List Proc) (H M : Family) (f : Proc) (k : ℕ) where
  -- the activation stands at point u of its procedure, to which it came from t
  pub record At (t u : Point) (todo : List Item) : Type 0 where
    pub stands : Stands ps rs f u
    pub follows : Follows ((world ps).env f.module) k u todo
    pub bounds : Bounds ps rs H M f t u

  abbrev pub StaysOn : Point → Next → Type 0
  StaysOn t (Reads l todo vs ls) = (u : Point) × At t u todo
  StaysOn t (Writes l v todo vs ls) = (o : Option Proc) × (u : Point) × ComesTo ps rs H M f t (p.Writes o u) × At t u todo
  StaysOn t (Calls g args todo vs ls) = (w : Point) × (u : Point) × ComesTo ps rs H M f t w × CallsTo g args w u × Follows ((world ps).env f.module) k u todo
  StaysOn t (Returns v) = (u : Point) × ComesTo ps rs H M f t u × ReturnsAt u
  StaysOn t (Jumps todo vs ls) = (u : Point) × At t u todo
  StaysOn t (Leaps l ls) = (u : Point) → label ps f l ≡ Some u → At t u (leapt ((world ps).code f) l)
  StaysOn t (Asks r todo) = ⊥
  StaysOn t (Recovers l todo vs ls) = (u : Point) × At t u todo
  StaysOn t (Errors n) = Unit {0}
  StaysOn t Lacks = Unit {0}

abbrev pub ActsStayOn : Type 0
ActsStayOn =
    (ps : System) (rs : List Proc) (H M : Family) (f : Proc) (k : ℕ) (c : Code) (t : Point) (todo : List Item) (vs ls : List Datum)
    → KeepsHeld ps rs H → KeepsMay ps rs M → (world ps).code f ≡ Some c → Stands ps rs f t
    → Follows ((world ps).env f.module) (suc k) t todo → StaysOn ps rs H M f k t (next ((world ps).env f.module) todo vs ls)
