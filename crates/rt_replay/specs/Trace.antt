-- The trace of a run of the source meaning: where the task changes that makes the steps, or which steps touch one item of data.
use Rattle.std.specs.Prelude.{ℕ, zero, suc, ◌+◌, Bool, true, false, ◌&&◌, ◌==◌, if◌then◌else◌, List, [], ◌∷◌, ◌++◌, take, codes, decimal, option_map, Option, Some, None, slice_get}
use Rattle.rt_modes.specs.Bricks.{supplied_names}
use Rattle.rt_tree_nodes.specs.declared.brick.ModuleParts.{ModuleParts}
use Rattle.rt_tree_nodes.specs.declared.store.Location.{Location}
use Rattle.rt_tree_nodes.specs.declared.store.Location.TheVariants.{Shared}
use Rattle.rt_tree_nodes.specs.declared.store.Origin.TheVariants.{Brick}
use Rattle.rt_tree_nodes.specs.declared.store.Proc.{Proc}
use Rattle.rt_rules.specs.Rules.{running}
use Rattle.rt_work_state.specs.Stores.{numbered}
use Rattle.rt_resolve.specs.World.{World}
use Rattle.rt_report.specs.Faults.{name_by}
use Rattle.rt_report.specs.Lines.{lines}
use Rattle.rt_report.specs.Reports.{name_or_none, name_at}
use Rattle.rt_meaning.specs.Run.{State, serve, task_at}
use Rattle.rt_meaning.specs.Runs.{Reached, after}
use Rattle.rt_meaning.specs.Step.{Task, Doing, Touch, request, task_step}

-- what a run is a function of, but for the number of its steps: the modules, the state with which it begins, the placements of its
-- ticks, and the bytes of the console
pub record Play : Type 0 where
  pub world : World
  pub begin : State
  pub placements : List ℕ
  pub input : List ℕ

-- what the run has come to after s steps, where it is there
abbrev pub reached : Play → ℕ → Option Reached
reached p s = after p.world p.begin p.placements p.input s

abbrev pub running_in : Option Reached → Option ℕ
running_in None = None
running_in (Some r) = running r.state.rules

-- the task that makes step s + 1
abbrev pub task_after : Play → ℕ → Option ℕ
task_after p s = running_in (reached p s)

-- ---- names

-- the procedure of the innermost activation: the root before its call and after its return
abbrev pub innermost : Task → Option Proc
innermost (Doing a callers own) = Some a.proc
innermost _ = None

abbrev pub brick_name : Option ModuleParts → ℕ → Option (List ℕ)
brick_name None b = numbered supplied_names b
brick_name (Some m) b = option_map (λ k. k.name) (slice_get m.bricks b)

-- a procedure of a module behind the module's title; a supplied one, of module 0, has none
abbrev pub procedure_name : List ModuleParts → Proc → List ℕ
procedure_name ms f = name_by (option_map (λ m. m.title) (numbered ms f.module)) (name_or_none (brick_name (numbered ms f.module) f.brick))

abbrev pub name_in : List ModuleParts → Option Proc → List ℕ
name_in ms None = []
name_in ms (Some f) = procedure_name ms f

-- ---- where the task changes

-- the task of this step, where it isn't that of the step before
abbrev pub changed : Option ℕ → Option ℕ → Option ℕ
changed before None = None
changed None (Some i) = Some i
changed (Some j) (Some i) = if i == j then None else Some i

-- the task of step s
abbrev pub task_before : Play → ℕ → Option ℕ
task_before p zero = None
task_before p (suc s) = task_after p s

-- the task of step s + 1, where it isn't that of step s; before the first step there is none
abbrev pub switched : Play → ℕ → Option ℕ
switched p s = changed (task_before p s) (task_after p s)

abbrev pub innermost_in : Option Reached → ℕ → Option Proc
innermost_in None i = None
innermost_in (Some r) i = innermost (task_at r.state.tasks i)

abbrev pub switch_words : List (List ℕ) → List ModuleParts → Play → ℕ → ℕ → List (List ℕ)
switch_words names ms p s i =
    codes "SWITCH" ∷ decimal s ∷ codes "TASK" ∷ name_at names i ∷ codes "IN" ∷ name_in ms (innermost_in (reached p s) i) ∷ []

abbrev pub switch_lines : List (List ℕ) → List ModuleParts → Play → ℕ → Option ℕ → List (List (List ℕ))
switch_lines names ms p s None = []
switch_lines names ms p s (Some i) = switch_words names ms p s i ∷ []

-- a line for each of the first n steps before which the task changes, in the order of the steps
abbrev pub switches : List (List ℕ) → List ModuleParts → Play → ℕ → List (List (List ℕ))
switches names ms p zero = []
switches names ms p (suc s) = switches names ms p s ++ switch_lines names ms p s (switched p s)

-- ---- steps that touch an item

-- an item of a data brick of a module; modules count from 1, bricks and items from 0
pub record Watched : Type 0 where
  pub module_number : ℕ
  pub brick : ℕ
  pub item : ℕ

-- whether the location is the item or lies in it
abbrev pub lies_in : Watched → Location → Bool
lies_in x (Shared (Brick m b) (k ∷ path)) = m == x.module_number && (b == x.brick && k == x.item)
lies_in x _ = false

-- the location that the next step of task i reads or writes, where `input` is the next byte of the console
abbrev pub touched : World → State → ℕ → Option ℕ → Option Touch
touched w s i input =
    let t = task_at s.tasks i in
    (task_step w t s.store (serve s.rules s.taken i input (request w t)).outcome).touched

abbrev pub touched_in : Play → Option Reached → ℕ → Option Touch
touched_in p None i = None
touched_in p (Some r) i = touched p.world r.state i (slice_get p.input r.state.taken)

abbrev pub touch_word : Bool → List ℕ
touch_word true = codes "WRITE"
touch_word false = codes "READ"

abbrev pub touch_words : List (List ℕ) → ℕ → ℕ → Bool → List (List ℕ)
touch_words names s i wrote = touch_word wrote ∷ decimal s ∷ codes "TASK" ∷ name_at names i ∷ []

-- a line for the touch of step s by task i, where it is one of the item
abbrev pub touch_lines : List (List ℕ) → Watched → ℕ → ℕ → Option Touch → List (List (List ℕ))
touch_lines names x s i None = []
touch_lines names x s i (Some t) = if lies_in x t.at then touch_words names s i t.wrote ∷ [] else []

abbrev pub step_lines : List (List ℕ) → Watched → Play → ℕ → Option ℕ → List (List (List ℕ))
step_lines names x p s None = []
step_lines names x p s (Some i) = touch_lines names x (s + 1) i (touched_in p (reached p s) i)

-- a line for each of the first n steps that touches the item, in the order of the steps
abbrev pub touches : List (List ℕ) → Watched → Play → ℕ → List (List (List ℕ))
touches names x p zero = []
touches names x p (suc s) = touches names x p s ++ step_lines names x p s (task_after p s)

-- ---- the trace

abbrev pub all_lines : List (List ℕ) → List ModuleParts → Option Watched → Play → ℕ → List (List (List ℕ))
all_lines names ms None p n = switches names ms p n
all_lines names ms (Some x) p n = touches names x p n

-- the trace of n steps, of tasks of these names: the first 100,000 of its lines
abbrev pub trace_text : List (List ℕ) → List ModuleParts → Option Watched → Play → ℕ → List ℕ
trace_text names ms watch p n = lines (take 100000 (all_lines names ms watch p n))
