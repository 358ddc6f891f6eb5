-- How far a walk over a graph has come.
use Rattle.std.specs.Prelude.{◌≡◌, ◌≢◌, ℕ, ◌+◌, ◌<◌, ◌≤◌, ◌⊎◌, Bool, true, false, List, [], ◌∷◌, ◌++◌, Option, Some, None, length, replicate, slice_get, slice_set}
use Rattle.rt_digraph.specs.Walks.{Has, AreDifferent, Reached, IsOnCycle, EachLeads, HaveAllBefore}
use Rattle.rt_digraph.specs.Digraph.{successors, Edge, IsRoot}
use Rattle.rt_digraph.specs.declared.walk.State.{State}
use Rattle.rt_digraph.specs.declared.walk.State.TheVariants as state
use Rattle.rt_digraph.specs.declared.walk.Walk.{Walk}

-- how many steps are left of a node with so many successors, at most
abbrev pub cost : ℕ → State → ℕ
cost degree state.New = degree + 3
cost degree (state.Open rest) = rest + 1
cost degree state.Done = 0

abbrev pub left : List (List ℕ) → List State → ℕ
left graph [] = 0
left [] (s ∷ states) = cost 0 s + left [] states
left (of ∷ graph) (s ∷ states) = cost (length of) s + left graph states

abbrev pub IsOpen : List State → ℕ → Type 0
IsOpen states n = (rest : ℕ) × (slice_get states n ≡ Some (state.Open rest))

abbrev pub rest_of : Option State → Option ℕ
rest_of (Some (state.Open rest)) = Some rest
rest_of _ = None

abbrev pub IsDone : List State → ℕ → Type 0
IsDone states n = slice_get states n ≡ Some state.Done

abbrev pub IsMarked : List State → ℕ → Type 0
IsMarked states n = IsOpen states n ⊎ IsDone states n

-- a successor that the walk has come by, where it looks for `stop`; as long as no cycle was met it is done
pub record IsPassed (stop : ℕ) (w : Walk) (n : ℕ) : Type 0 where
  pub marked : IsMarked w.states n
  pub not_stop : n ≢ stop
  pub done : w.is_cyclic ≡ false → IsDone w.states n

-- a walk that has not begun
pub record IsNew (nodes : ℕ) (w : Walk) : Type 0 where
  pub states : w.states ≡ replicate nodes state.New
  pub path : w.path ≡ []
  pub done : w.done ≡ []
  pub not_cyclic : w.is_cyclic ≡ false

-- a walk from roots that has not met `stop`
pub record IsGoing (graph : List (List ℕ)) (roots : List ℕ) (stop : ℕ) (w : Walk) : Type 0 where
  pub size : length w.states ≡ length graph
  -- the open nodes are those of the path
  pub opened : (n : ℕ) → Has w.path n → IsOpen w.states n
  pub on_path : (n : ℕ) → IsOpen w.states n → Has w.path n
  pub path_once : AreDifferent w.path
  pub path_leads : EachLeads (Edge graph) w.path
  pub begins : (n : ℕ) → slice_get w.path 0 ≡ Some n → IsRoot graph roots n
  -- those done are in the order
  pub finished : (n : ℕ) → Has w.done n → IsDone w.states n
  pub in_done : (n : ℕ) → IsDone w.states n → Has w.done n
  pub done_once : AreDifferent w.done
  pub reached : (n : ℕ) → IsMarked w.states n → Reached (Edge graph) (IsRoot graph roots) n
  pub passed : (n rest i s : ℕ) → slice_get w.states n ≡ Some (state.Open rest) → rest ≤ i → slice_get (successors graph n) i ≡ Some s → s < length graph → IsPassed stop w s
  pub closed : (n s : ℕ) → IsDone w.states n → Edge graph n s → IsPassed stop w s
  pub before : w.is_cyclic ≡ false → HaveAllBefore (Edge graph) w.done
  pub cyclic : w.is_cyclic ≡ true → (n : ℕ) × Reached (Edge graph) (IsRoot graph roots) n × IsOnCycle (Edge graph) n

-- what was marked stays so
abbrev pub KeepsMarks : List State → List State → Type 0
KeepsMarks before after = (n : ℕ) → IsMarked before n → IsMarked after n

-- a walk that went all the way
pub record IsOver (graph : List (List ℕ)) (roots : List ℕ) (stop : ℕ) (w : Walk) : Type 0 where
  pub going : IsGoing graph roots stop w
  pub path : w.path ≡ []

-- a walk that went all the way from each root
pub record IsWhole (graph : List (List ℕ)) (roots : List ℕ) (w : Walk) : Type 0 where
  pub over : IsOver graph roots (length graph) w
  pub each_root : (n : ℕ) → IsRoot graph roots n → IsMarked w.states n

-- a walk that met `stop` behind the last node of its path
pub record HasMet (graph : List (List ℕ)) (roots : List ℕ) (stop : ℕ) (w : Walk) : Type 0 where
  pub begins : (n : ℕ) × (slice_get w.path 0 ≡ Some n) × IsRoot graph roots n
  pub once : AreDifferent w.path
  pub leads : EachLeads (Edge graph) (w.path ++ stop ∷ [])

abbrev pub IsLast : List ℕ → ℕ → Type 0
IsLast path n = (below : List ℕ) × (path ≡ below ++ n ∷ [])

abbrev pub Turned : List (List ℕ) → List ℕ → ℕ → Bool → Walk → Type 0
Turned graph roots stop true w = HasMet graph roots stop w
Turned graph roots stop false w = IsGoing graph roots stop w

-- where a run ends: at `stop`, or behind the whole way
abbrev pub Ended : List (List ℕ) → List ℕ → ℕ → Bool → Walk → Type 0
Ended graph roots stop true w = HasMet graph roots stop w
Ended graph roots stop false w = IsOver graph roots stop w

-- ---- the moves

abbrev pub back : ℕ → Walk → Walk
back n w = record w { path = w.path ++ n ∷ [] }

abbrev pub enter : List (List ℕ) → ℕ → Walk → Walk
enter graph n w = record w { states = slice_set w.states n (state.Open (length (successors graph n))); path = w.path ++ n ∷ [] }

abbrev pub pass : ℕ → ℕ → Walk → Walk
pass n rest w = record w { states = slice_set w.states n (state.Open rest) }

abbrev pub note : ℕ → ℕ → Walk → Walk
note n rest w = record w { states = slice_set w.states n (state.Open rest); is_cyclic = true }

abbrev pub leave : ℕ → Walk → Walk
leave n w = record w { states = slice_set w.states n state.Done; done = w.done ++ n ∷ [] }
