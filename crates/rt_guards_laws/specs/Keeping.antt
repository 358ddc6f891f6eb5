-- The invariant holds at the start, and a task's own steps keep it: where its innermost activation goes on, calls and returns, and in
-- services.
use Rattle.std.specs.Prelude.{◌≡◌, ◌≢◌, ◌⊎◌, ℕ, List, [], ◌∷◌, Option, Some, None}
use Rattle.std.specs.List.{Contains}
use Rattle.rt_tree_nodes.specs.declared.store.Datum.{Datum}
use Rattle.rt_tree_nodes.specs.declared.store.Proc.{Proc}
use Rattle.rt_rules.specs.Roster.{Roster, IsTask, IsNumber}
use Rattle.rt_rules.specs.Rules.{start}
use Rattle.rt_tree.specs.Stored.{System, brick}
use Rattle.rt_work_state.specs.Items.{Item, Leave, Serve}
use Rattle.rt_resolve.specs.World.{Code}
use Rattle.rt_resolve.specs.Systems.{world}
use Rattle.rt_meaning.specs.Run.{task_of}
use Rattle.rt_meaning.specs.Step.{Act, Doing, with_todo, entered, returned}
use Rattle.rt_guarded.specs.Points.{Point, ReturnsAt}
use Rattle.rt_guarded.specs.Families.{Family, In, CalledAt, KeepsHeld, KeepsMay}
use Rattle.rt_guards_laws.specs.Owning.{Has, Secures, Releases}
use Rattle.rt_guarded.specs.Graph.{secure, release, MeetsErrors, Way, Handles, RelE}
use Rattle.rt_guards_laws.specs.Steps.{At, ComesTo}
use Rattle.rt_guards_laws.specs.Invariant.{Between, Goes, Called, Waits, Safe, Callers, TaskStands, SameHas}

-- The activation goes on: after a read, a write, a jump, a leap to a label, and the read of ERP at a division.
abbrev pub GoingOnKeeps : Type 0
GoingOnKeeps =
    (ps : System) (rs : List Proc) (H M : Family) (k : ℕ) (r : Roster) (i : ℕ) (a : Act) (callers : List Act) (own : List Datum) (t u : Point) (todo : List Item) (vs ls : List Datum)
    → Between ps rs H M k r i a.proc t → Callers ps rs H M k r i a.proc callers → At ps rs H M a.proc k t u todo
    → TaskStands ps rs H M k r i (Doing (with_todo a todo vs ls) callers own)

-- It calls a procedure with a body, by name, through a variable or for an error.
abbrev pub CallsKeep : Type 0
CallsKeep =
    (ps : System) (rs : List Proc) (H M : Family) (k : ℕ) (r : Roster) (i : ℕ) (a : Act) (callers : List Act) (own : List Datum) (t w u : Point) (todo : List Item) (vs ls args : List Datum) (kept : Datum) (g : Proc) (c : Code)
    → KeepsHeld ps rs H → KeepsMay ps rs M
    → Between ps rs H M k r i a.proc t → Callers ps rs H M k r i a.proc callers → ComesTo ps rs H M a.proc t w → Called ps rs a.proc u g w → Goes ps k a.proc u todo → (world ps).code g ≡ Some c
    → TaskStands ps rs H M k r i (Doing (entered (Some c) g args kept) (with_todo a todo vs ls ∷ callers) own)

-- It returns to an activation that waits for it.
abbrev pub ReturnsKeep : Type 0
ReturnsKeep =
    (ps : System) (rs : List Proc) (H M : Family) (k : ℕ) (r : Roster) (i : ℕ) (a b : Act) (rest : List Act) (own : List Datum) (t u : Point) (v : Option Datum)
    → KeepsHeld ps rs H → KeepsMay ps rs M
    → Between ps rs H M k r i a.proc t → ComesTo ps rs H M a.proc t u → ReturnsAt u
    → (w : Waits ps rs k b a.proc) → Safe ps rs H M k r i b.proc w.at a.proc → Callers ps rs H M k r i b.proc rest
    → TaskStands ps rs H M k r i (returned v (b ∷ rest) own)

-- ---- services: from the point of the call to the point behind it

-- SECURE(n), whether it took n, waits for it or met error 4
abbrev pub SecuresKeep : Type 0
SecuresKeep =
    (ps : System) (rs : List Proc) (H M : Family) (k : ℕ) (r q : Roster) (i : ℕ) (f : Proc) (w u : Point) (n : ℕ)
    → KeepsHeld ps rs H → KeepsMay ps rs M → CalledAt ps rs f w secure (Some n) → Way ps f w u → Secures r q i n
    → Between ps rs H M k r i f w → Between ps rs H M k q i f u

-- RELEASE(n), whether it gave n away or met error 4
abbrev pub ReleasesKeep : Type 0
ReleasesKeep =
    (ps : System) (rs : List Proc) (H M : Family) (k : ℕ) (r q : Roster) (i : ℕ) (f : Proc) (w u : Point) (n : ℕ)
    → KeepsHeld ps rs H → KeepsMay ps rs M → CalledAt ps rs f w release (Some n) → Way ps f w u → Releases r q i n
    → Between ps rs H M k r i f w → Between ps rs H M k q i f u

-- every other service that comes back
abbrev pub OthersKeep : Type 0
OthersKeep =
    (ps : System) (rs : List Proc) (H M : Family) (k : ℕ) (r q : Roster) (i : ℕ) (f : Proc) (w u : Point) (j : ℕ) (a : Option ℕ)
    → KeepsHeld ps rs H → KeepsMay ps rs M → CalledAt ps rs f w (brick 0 j) a → ((j ≡ 4) ⊎ (j ≡ 5)) ⊎ (MeetsErrors j → ⊥) → j ≢ 7 → j ≢ 10 → Way ps f w u → SameHas r q i
    → Between ps rs H M k r i f w → Between ps rs H M k q i f u

-- ---- the start, and the root

-- At the start each task is about to call its root, and has nothing.
abbrev pub StartsStand : Type 0
StartsStand =
    (ps : System) (rs : List Proc) (H M : Family) (k : ℕ) (priorities : List ℕ) (i : ℕ) (f : Proc) → IsTask (start priorities) i → Contains rs f
    → TaskStands ps rs H M k (start priorities) i (task_of f)

-- A task's root is entered.
abbrev pub RootsKeep : Type 0
RootsKeep =
    (ps : System) (rs : List Proc) (H M : Family) (k : ℕ) (r : Roster) (i : ℕ) (a : Act) (f : Proc) (own vs ls args : List Datum) (kept : Datum) (c : Code)
    → KeepsHeld ps rs H → Contains rs f → (world ps).code f ≡ Some c → ((n : ℕ) → IsNumber n → Has r i n → ⊥)
    → TaskStands ps rs H M k r i (Doing (entered (Some c) f args kept) (with_todo a (Serve 11 ∷ []) vs ls ∷ []) own)

-- It returns.
abbrev pub RootsReturn : Type 0
RootsReturn = (ps : System) (rs : List Proc) (H M : Family) (k : ℕ) (r : Roster) (i : ℕ) (a : Act) (own : List Datum) (v : Option Datum) → a.todo ≡ Serve 11 ∷ [] → TaskStands ps rs H M k r i (returned v (a ∷ []) own)

-- ---- errors in services

-- A handler with a body is entered in the service of supplied procedure j, which activation s is and activation a called.
abbrev pub HandlersKeep : Type 0
HandlersKeep =
    (ps : System) (rs : List Proc) (H M : Family) (k : ℕ) (r : Roster) (i : ℕ) (s a : Act) (rest : List Act) (own vs ls args : List Datum) (kept : Datum) (j : ℕ) (b : Option ℕ) (w : Waits ps rs k a (brick 0 j)) (g : Proc) (c : Code)
    → KeepsHeld ps rs H → KeepsMay ps rs M → MeetsErrors j → s.proc ≡ brick 0 j → CalledAt ps rs a.proc w.from (brick 0 j) b
    → Between ps rs H M k r i a.proc w.from → ((n : ℕ) → IsNumber n → In H a.proc w.at n → Has r i n) → ((n : ℕ) → In H a.proc w.at n → RelE ps n → ⊥)
    → Callers ps rs H M k r i a.proc rest → Handles ps g → (world ps).code g ≡ Some c
    → TaskStands ps rs H M k r i (Doing (entered (Some c) g args kept) (with_todo s (Leave ∷ []) vs ls ∷ a ∷ rest) own)

-- It returns into the service.
abbrev pub HandlersReturn : Type 0
HandlersReturn =
    (ps : System) (rs : List Proc) (H M : Family) (k : ℕ) (r : Roster) (i : ℕ) (x s a : Act) (rest : List Act) (own : List Datum) (t u : Point) (j : ℕ) (b : Option ℕ) (w : Waits ps rs k a (brick 0 j))
    → KeepsMay ps rs M → MeetsErrors j → s.proc ≡ brick 0 j → s.todo ≡ Leave ∷ [] → CalledAt ps rs a.proc w.from (brick 0 j) b → Way ps a.proc w.from w.at → Handles ps x.proc
    → Safe ps rs H M k r i a.proc w.at x.proc → Between ps rs H M k r i x.proc t → ComesTo ps rs H M x.proc t u → ReturnsAt u → Callers ps rs H M k r i a.proc rest
    → TaskStands ps rs H M k r i (returned None (s ∷ a ∷ rest) own)

-- A supplied procedure returns to the activation that called it.
abbrev pub ServicesReturn : Type 0
ServicesReturn =
    (ps : System) (rs : List Proc) (H M : Family) (k : ℕ) (r : Roster) (i : ℕ) (a : Act) (rest : List Act) (own : List Datum) (j : ℕ) (v : Option Datum) (w : Waits ps rs k a (brick 0 j))
    → Between ps rs H M k r i a.proc w.at → Callers ps rs H M k r i a.proc rest → TaskStands ps rs H M k r i (returned v (a ∷ rest) own)

-- A supplied procedure is called.
abbrev pub SuppliedCalls : Type 0
SuppliedCalls =
    (ps : System) (rs : List Proc) (H M : Family) (k : ℕ) (r : Roster) (i : ℕ) (a : Act) (callers : List Act) (own : List Datum) (t w u : Point) (todo : List Item) (vs ls args : List Datum) (kept : Datum) (j : ℕ) (b : Option ℕ)
    → Between ps rs H M k r i a.proc t → Callers ps rs H M k r i a.proc callers → ComesTo ps rs H M a.proc t w → CalledAt ps rs a.proc w (brick 0 j) b → Way ps a.proc w u → Goes ps k a.proc u todo
    → TaskStands ps rs H M k r i (Doing (entered None (brick 0 j) args kept) (with_todo a todo vs ls ∷ callers) own)
