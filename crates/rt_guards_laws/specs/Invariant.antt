-- The invariant of a source run: where each activation of a task stands, and how Held and May bound what the task has.
--
-- Of a task it speaks through what it has alone (owned or waited for), so ticks and other tasks' steps keep it.
use Rattle.std.specs.Prelude.{◌≡◌, ℕ, suc, ◌<◌, List, [], ◌∷◌, Option, Some}
use Rattle.std.specs.List.{Contains}
use Rattle.rt_tree_nodes.specs.declared.store.Datum.{Datum}
use Rattle.rt_tree_nodes.specs.declared.store.Proc.{Proc}
use Rattle.rt_rules.specs.Roster.{Roster, owner_of, IsNumber, InRanges}
use Rattle.rt_rules.specs.Rules.{running}
use Rattle.rt_tree.specs.Stored.{System, brick}
use Rattle.rt_work_state.specs.Items.{Item, Fetch, Report, GiveUp, Leave, Begin, Serve}
use Rattle.rt_resolve.specs.Systems.{world}
use Rattle.rt_meaning.specs.Step.{Act, Task, Over, Failed, Doing}
use Rattle.rt_guarded.specs.Points as p
use Rattle.rt_guarded.specs.Points.{Point}
use Rattle.rt_guarded.specs.Graph.{secure, MeetsErrors, Way, Handles, Rel}
use Rattle.rt_guards_laws.specs.Ways.{Follows}
use Rattle.rt_guarded.specs.Families.{Family, In, Stands, CalledAt}
use Rattle.rt_guards_laws.specs.Owning.{Has}
use Rattle.rt_guards_laws.specs.Steps.{ComesTo}
use Rattle.rt_guarded.specs.Tests.{Guard, Touches, HasBadAccess, IsRising}

module _ (ps : System) (rs : List Proc) where
  -- procedure g was called at point w of procedure f, behind which u stands
  pub data Called (f : Proc) (u : Point) (g : Proc) : Point → Type 0 where
    by_call : {w : Point} (a : Option ℕ) → CalledAt ps rs f w g a → Way ps f w u → Called f u g w
    by_error : Stands ps rs f (p.Divides u) → Handles ps g → Called f u g (p.Divides u)

-- for k visible steps what is still to be done in procedure f keeps to the points from t on
abbrev pub Goes : System → ℕ → Proc → Point → List Item → Type 0
Goes ps k f t todo = Follows ((world ps).env f.module) k t todo

-- An activation waits for g, which it called at one point, at another.
pub record Waits (ps : System) (rs : List Proc) (k : ℕ) (a : Act) (g : Proc) : Type 0 where
  pub at : Point
  pub from : Point
  pub called : Called ps rs a.proc at g from
  pub goes : Goes ps k a.proc at a.todo

module _ (ps : System) (rs : List Proc) (H M : Family) (k : ℕ) (r : Roster) (i : ℕ) where
  -- what the task has lies between Held and May of a point
  abbrev pub Between : Proc → Point → Type 0
  Between f t = ((n : ℕ) → IsNumber n → In H f t n → Has r i n) × ((n : ℕ) → IsNumber n → Has r i n → In M f t n)

  -- What Held has at a point the task has, and nothing that g reaches releases it.
  abbrev pub Safe : Proc → Point → Proc → Type 0
  Safe f u g = ((n : ℕ) → IsNumber n → In H f u n → Has r i n) × ((n : ℕ) → In H f u n → Rel ps g n → ⊥)

  -- The callers of an activation of g, innermost first. At the bottom stands what is about to end the task.
  pub data Callers : Proc → List Act → Type 0 where
    at_root : {g : Proc} (a : Act) → Contains rs g → a.todo ≡ Serve 11 ∷ [] → Callers g (a ∷ [])
    of_body : {g : Proc} {rest : List Act} (a : Act) (w : Waits ps rs k a g) → Safe a.proc w.at g → Callers a.proc rest → Callers g (a ∷ rest)
    -- g handles an error in the service of supplied procedure j
    of_service : {g : Proc} {rest : List Act} (s a : Act) (j : ℕ) (w : Waits ps rs k a (brick 0 j)) → MeetsErrors j → s.proc ≡ brick 0 j → s.todo ≡ Leave ∷ [] → Handles ps g → Safe a.proc w.at g → Callers a.proc rest → Callers g (s ∷ a ∷ rest)

  -- How far a supplied procedure is that was called at w, behind which u stands. A task that waits is past its service.
  pub data Serving (f : Proc) (w u : Point) (j : ℕ) : List Item → Type 0 where
    asks : Between f w → Serving f w u j (Serve j ∷ Leave ∷ [])
    done : Between f u → Serving f w u j (Leave ∷ [])
    gives : Between f u → Serving f w u j (GiveUp ∷ [])
    reads : (e : ℕ) → MeetsErrors j → Between f w → ((n : ℕ) → IsNumber n → In H f u n → Has r i n) → Serving f w u j (Fetch ∷ Report e ∷ Leave ∷ [])
    reports : (e : ℕ) → MeetsErrors j → Between f w → ((n : ℕ) → IsNumber n → In H f u n → Has r i n) → Serving f w u j (Report e ∷ Leave ∷ [])

  pub data TaskStands : Task → Type 0 where
    over : {own : List Datum} → TaskStands (Over own)
    failed : {n : ℕ} {own : List Datum} → TaskStands (Failed n own)
    begins : {own : List Datum} (a : Act) (f : Proc) → Contains rs f → a.todo ≡ Begin f ∷ Serve 11 ∷ [] → ((n : ℕ) → IsNumber n → Has r i n → ⊥) → TaskStands (Doing a [] own)
    ends : {own : List Datum} (a : Act) → a.todo ≡ Serve 11 ∷ [] → TaskStands (Doing a [] own)
    in_body : {callers : List Act} {own : List Datum} (a : Act) (t : Point) → Stands ps rs a.proc t → Goes ps k a.proc t a.todo → Between a.proc t → Callers a.proc callers → TaskStands (Doing a callers own)
    in_service : {rest : List Act} {own : List Datum} (s a : Act) (j : ℕ) (w : Waits ps rs k a (brick 0 j)) → s.proc ≡ brick 0 j → Serving a.proc w.from w.at j s.todo → Callers a.proc rest → TaskStands (Doing s (a ∷ rest) own)

-- ---- ticks, and what other tasks do

-- what the task has is the same in q
abbrev pub SameHas : Roster → Roster → ℕ → Type 0
SameHas r q i = (n : ℕ) → IsNumber n → (Has r i n → Has q i n) × (Has q i n → Has r i n)

abbrev pub StandsBySame : Type 0
StandsBySame = (ps : System) (rs : List Proc) (H M : Family) (k : ℕ) (r q : Roster) (i : ℕ) (t : Task) → SameHas r q i → TaskStands ps rs H M k r i t → TaskStands ps rs H M k q i t

-- So it is for one visible step less.
abbrev pub StandsForFewer : Type 0
StandsForFewer = (ps : System) (rs : List Proc) (H M : Family) (k : ℕ) (r : Roster) (i : ℕ) (t : Task) → TaskStands ps rs H M (suc k) r i t → TaskStands ps rs H M k r i t

-- ---- what follows

-- Where a running task comes to a point that touches the brick, it owns the facility.
abbrev pub AccessFollows : Type 0
AccessFollows =
    (ps : System) (rs : List Proc) (H M : Family) (k : ℕ) (r : Roster) (i : ℕ) (g : Guard) (f : Proc) (t u : Point)
    → InRanges r → running r ≡ Some i → IsNumber g.facility → ((h : Proc) → HasBadAccess ps rs H g h → ⊥)
    → ((n : ℕ) → IsNumber n → In H f t n → Has r i n) → ComesTo ps rs H M f t u → Touches g.brick u → owner_of r g.facility ≡ i

-- Where a task asks for SECURE(n), all that it owns is below n.
abbrev pub OrderFollows : Type 0
OrderFollows =
    (ps : System) (rs : List Proc) (M : Family) (r : Roster) (i n : ℕ) (f : Proc) (w : Point)
    → IsRising ps rs M → CalledAt ps rs f w secure (Some n) → ((m : ℕ) → IsNumber m → Has r i m → In M f w m)
    → (m : ℕ) → IsNumber m → owner_of r m ≡ i → m < n
