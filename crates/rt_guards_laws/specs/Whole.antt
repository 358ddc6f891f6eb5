-- Whole runs, whatever ticks and steps come: what holds in each state where each task's own steps do what they are to do.
use Rattle.std.specs.Prelude.{◌≡◌, ℕ, suc, ◌<◌, List, [], ◌∷◌, Option, Some, length}
use Rattle.rt_tree_nodes.specs.declared.store.Proc.{Proc}
use Rattle.rt_rules.specs.declared.service.Svc.TheVariants.{Secure}
use Rattle.rt_rules.specs.Laws.{CanStart}
use Rattle.rt_rules.specs.Roster.{owner_of, IsTask, IsNumber, InRanges}
use Rattle.rt_rules.specs.Rules.{running}
use Rattle.rt_tree.specs.Stored.{System}
use Rattle.rt_work_state.specs.declared.request.Request.TheVariants.{Rules}
use Rattle.rt_work_state.specs.Stores.{Store}
use Rattle.rt_resolve.specs.Systems.{world}
use Rattle.rt_meaning.specs.Run.{State, task_at, stepped, tick, start}
use Rattle.rt_meaning.specs.Step.{request}
use Rattle.rt_meaning_laws.specs.Runs.{Happening, a_tick, a_step, happens, after}
use Rattle.rt_guarded.specs.Families.{Family}
use Rattle.rt_guards_laws.specs.Owning.{WaitersOwnLower}
use Rattle.rt_guards_laws.specs.Rings.{NoRing}
use Rattle.rt_guards_laws.specs.Invariant.{TaskStands}

module _ (ps : System) (rs : List Proc) (H M : Family) where
  -- each task of a state stands, however many of its own steps are looked at
  abbrev pub AllStand : State → Type 0
  AllStand s = (k i : ℕ) → IsTask s.rules i → TaskStands ps rs H M k s.rules i (task_at s.tasks i)

  -- the running task stands after its next step
  abbrev pub OwnStepStands : State → Option ℕ → Type 0
  OwnStepStands s input =
      (k i : ℕ) → running s.rules ≡ Some i → TaskStands ps rs H M (suc k) s.rules i (task_at s.tasks i)
      → TaskStands ps rs H M k (stepped (world ps) s i input).state.rules i (task_at (stepped (world ps) s i input).state.tasks i)

  -- so it does at each of these steps
  abbrev pub OwnStepsStand : State → List Happening → Type 0
  OwnStepsStand s [] = Unit {0}
  OwnStepsStand s (a_tick ∷ hs) = OwnStepsStand (tick s) hs
  OwnStepsStand s (a_step input ∷ hs) = OwnStepStands s input × OwnStepsStand (happens (world ps) s (a_step input)) hs

-- the running task asks for SECURE(n) where all that it owns is below n
abbrev pub AsksInOrder : System → State → Type 0
AsksInOrder ps s = (i n m : ℕ) → running s.rules ≡ Some i → request (world ps) (task_at s.tasks i) ≡ Rules (Secure n) → IsNumber m → owner_of s.rules m ≡ i → m < n

-- so it does at each of these steps
abbrev pub AskInOrder : System → State → List Happening → Type 0
AskInOrder ps s [] = Unit {0}
AskInOrder ps s (a_tick ∷ hs) = AskInOrder ps (tick s) hs
AskInOrder ps s (a_step input ∷ hs) = AsksInOrder ps s × AskInOrder ps (happens (world ps) s (a_step input)) hs

-- ---- the laws

-- At the start each task stands.
abbrev pub StartsAllStand : Type 0
StartsAllStand = (ps : System) (rs : List Proc) (H M : Family) (S : Store) (priorities : List ℕ) → length rs ≡ length priorities → AllStand ps rs H M (start S rs priorities)

-- Where each task stands at the start, and stands after its own steps, each stands in each state that follows.
abbrev pub RunsStand : Type 0
RunsStand =
    (ps : System) (rs : List Proc) (H M : Family) (s : State) (hs : List Happening)
    → InRanges s.rules → OwnStepsStand ps rs H M s hs → AllStand ps rs H M s → AllStand ps rs H M (after (world ps) s hs)

-- Where facilities are asked for in order, who waits owns lower facilities alone in each state of a run, and no state has a ring.
abbrev pub RunsHaveNoRing : Type 0
RunsHaveNoRing =
    (ps : System) (rs : List Proc) (S : Store) (priorities : List ℕ) (hs : List Happening) → CanStart priorities → AskInOrder ps (start S rs priorities) hs
    → WaitersOwnLower (after (world ps) (start S rs priorities) hs).rules × NoRing (after (world ps) (start S rs priorities) hs).rules
