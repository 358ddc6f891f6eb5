-- The points of a system's procedures, the ways of control between them, what may be called where, and what is reached.
use Rattle.std.specs.Prelude.{◌≡◌, ◌⊎◌, ℕ, ◌≤◌, List, codes, Option, Some, None}
use Rattle.std.specs.List.{Contains}
use Rattle.rt_modes.specs.FullMode.{FullMode}
use Rattle.rt_modes.specs.declared.mode.Mode.{Mode}
use Rattle.rt_tree_nodes.specs.declared.brick.ModuleParts.{ModuleParts}
use Rattle.rt_tree_nodes.specs.declared.store.Proc.{Proc}
use Rattle.rt_tree.specs.Stored.{System, IsCandidate, module_of, brick}
use Rattle.rt_resolve.specs.World.{Code, World}
use Rattle.rt_resolve.specs.Systems.{world}
use Rattle.rt_guarded.specs.Points.{Point, Ends, Returns, Reads, Writes, Divides, Calls, CallsBy, Forks, Turns, Tests, Leaps, Picks, Recovers, sequence, test, from_label}

-- the supplied procedures by their numbers
abbrev pub secure : Proc
secure = brick 0 6

abbrev pub release : Proc
release = brick 0 7

-- WAIT, SIGNAL, SECURE and RELEASE
abbrev pub MeetsErrors : ℕ → Type 0
MeetsErrors k = (4 ≤ k) × (k ≤ 7)

-- the point at which a procedure is entered
abbrev pub entry_by : World → Proc → Option Code → Option Point
entry_by w f None = None
entry_by w f (Some c) = Some (sequence (w.env f.module) c.body Ends)

abbrev pub label_by : World → Proc → ℕ → Option Code → Option Point
label_by w f l None = None
label_by w f l (Some c) = from_label (w.env f.module) l c.body Ends

module _ (ps : System) where
  abbrev pub entry : Proc → Option Point
  entry f = entry_by (world ps) f ((world ps).code f)

  -- the point of a label of procedure f
  abbrev pub label : Proc → ℕ → Option Point
  label f l = label_by (world ps) f l ((world ps).code f)

  -- a way of control from one point to the next, past what is called there
  abbrev pub Way : Proc → Point → Point → Type 0
  Way f Ends u = ⊥
  Way f (Returns k) u = ⊥
  Way f (Reads o k) u = u ≡ k
  Way f (Writes o k) u = u ≡ k
  Way f (Divides k) u = u ≡ k
  Way f (Calls g n k) u = u ≡ k
  Way f (CallsBy m k) u = u ≡ k
  Way f (Forks a b) u = (u ≡ a) ⊎ (u ≡ b)
  Way f (Turns q k) u = (u ≡ k) ⊎ (u ≡ sequence ((world ps).env f.module) q (Turns q k))
  Way f (Tests t q k) u = u ≡ test ((world ps).env f.module) t (sequence ((world ps).env f.module) q (Tests t q k)) k
  Way f (Leaps l k) u = label f l ≡ Some u
  Way f (Picks ls k) u = (u ≡ k) ⊎ ((l : ℕ) × Contains ls l × (label f l ≡ Some u))
  Way f (Recovers l k) u = u ≡ k

  -- what stands in the text behind a point, though no way leads there
  abbrev pub Behind : Proc → Point → Point → Type 0
  Behind f (Returns k) u = u ≡ k
  Behind f (Leaps l k) u = u ≡ k
  Behind f (Recovers l k) u = label f l ≡ Some u
  Behind f _ u = ⊥

  -- the points of procedure f, those that no way reaches among them
  pub data IsPoint (f : Proc) : Point → Type 0 where
    first : {t : Point} → entry f ≡ Some t → IsPoint f t
    onward : {t u : Point} → IsPoint f t → Way f t u ⊎ Behind f t u → IsPoint f u

  -- ---- calls

  -- a procedure that a value of this mode may be, in the sight of the module of f
  abbrev pub IsValue : Proc → Mode → Proc → Type 0
  IsValue f m g = (p : ModuleParts) × (module_of ps f.module ≡ Some p) × IsCandidate ps (FullMode p.modes m) g

  -- what an error may call
  abbrev pub Handles : Proc → Type 0
  Handles g = IsCandidate ps (codes "PROC(INT)") g

  -- What may be called at a point, with the number that is its argument.
  abbrev pub MayCall : Proc → Point → Proc → Option ℕ → Type 0
  MayCall f (Calls h i k) g n = (g ≡ h) × (n ≡ i)
  MayCall f (CallsBy m k) g n = IsValue f m g × (n ≡ None)
  MayCall f t g n = ⊥

  -- an edge of the call graph
  pub data Edge : Proc → Proc → Type 0 where
    at_point : {f g : Proc} {t : Point} (n : Option ℕ) → IsPoint f t → MayCall f t g n → Edge f g
    at_division : {f g : Proc} {k : Point} → IsPoint f (Divides k) → Handles g → Edge f g
    in_service : {k : ℕ} {g : Proc} → MeetsErrors k → Handles g → Edge (brick 0 k) g

  -- f itself, and what it reaches
  pub data Reaches (f : Proc) : Proc → Type 0 where
    itself : Reaches f f
    further : {g h : Proc} → Reaches f g → Edge g h → Reaches f h

  -- what these roots reach
  abbrev pub IsReached : List Proc → Proc → Type 0
  IsReached rs f = (r : Proc) × Contains rs r × Reaches r f

  -- the numbers that RELEASE has in q or in a procedure that q reaches
  abbrev pub Rel : Proc → ℕ → Type 0
  Rel q n = (g : Proc) × (t : Point) × Reaches q g × IsPoint g t × MayCall g t release (Some n)

  -- the same of what an error may call
  abbrev pub RelE : ℕ → Type 0
  RelE n = (g : Proc) × Handles g × Rel g n
