-- The steps and ticks of a source run: the tasks over one store, by the supervisor's rules.
use Rattle.std.specs.Prelude.{ℕ, ◌+◌, ◌-◌, List, map, Option, Some, None, slice_get, slice_set}
use Rattle.rt_tree_nodes.specs.declared.step.Step.{Step}
use Rattle.rt_rules.specs.declared.service.Outcome.{Outcome}
use Rattle.rt_rules.specs.declared.service.Outcome.TheVariants.{Go}
use Rattle.rt_rules.specs.Rules as rules
use Rattle.rt_rules.specs.Roster.{Roster}
use Rattle.rt_work_state.specs.declared.request.Request.{Request}
use Rattle.rt_work_state.specs.declared.request.Request.TheVariants.{Nothing, Takes, Puts, Rules}
use Rattle.rt_tree_nodes.specs.declared.store.Proc.{Proc}
use Rattle.rt_work_state.specs.Stores.{Store, first_own}
use Rattle.rt_resolve.specs.World.{World}
use Rattle.rt_meaning.specs.Step.{Task, Over, After, request, task_step, about_to}

-- the tasks 1, 2 and so on, the store, the supervisor's rules, and how many bytes of the console were taken
pub record State : Type 0 where
  pub rules : Roster
  pub store : Store
  pub tasks : List Task
  pub taken : ℕ

-- ---- services

-- what came of a request: the rules and the bytes taken then, the outcome, and the byte that was put out
pub record Served : Type 0 where
  pub rules : Roster
  pub taken : ℕ
  pub outcome : Outcome
  pub byte : Option ℕ

-- RRIN's service gives the next byte, or 4 where none is left
abbrev pub take : Roster → ℕ → Option ℕ → Served
take r n None = record { rules = r; taken = n; outcome = Go 4; byte = None }
take r n (Some b) = record { rules = r; taken = n + 1; outcome = Go b; byte = None }

abbrev pub by_rules : ℕ → rules.Served → Served
by_rules n (r, o) = record { rules = r; taken = n; outcome = o; byte = None }

-- a request of task i, where `input` is the next byte of the console
abbrev pub serve : Roster → ℕ → ℕ → Option ℕ → Request → Served
serve r n i input Nothing = record { rules = r; taken = n; outcome = Go 0; byte = None }
serve r n i input Takes = take r n input
serve r n i input (Puts b) = record { rules = r; taken = n; outcome = Go 0; byte = Some b }
serve r n i input (Rules service) = by_rules n (rules.serve r i service)

-- ---- one step, one tick

-- what a step of a task leaves: the rules and the bytes taken, the store, the task, the step, and the byte put out
pub record Moved : Type 0 where
  pub rules : Roster
  pub taken : ℕ
  pub store : Store
  pub task : Task
  pub step : Step
  pub byte : Option ℕ

abbrev pub moved_by : Served → After → Moved
moved_by s a = record { rules = s.rules; taken = s.taken; store = a.store; task = a.task; step = a.step; byte = s.byte }

abbrev pub moved_after : World → Task → Store → Served → Moved
moved_after w t S s = moved_by s (task_step w t S s.outcome)

-- the next visible step of task i, which runs and is t
abbrev pub moved : World → Task → Store → Roster → ℕ → ℕ → Option ℕ → Moved
moved w t S r taken i input = moved_after w t S (serve r taken i input (request w t))

abbrev pub task_in : Option Task → Task
task_in None = Over first_own
task_in (Some t) = t

abbrev pub task_at : List Task → ℕ → Task
task_at ts i = task_in (slice_get ts (i - 1))

-- what a step leaves: the state, its kind, and the byte that it puts out
pub record Stepped : Type 0 where
  pub state : State
  pub step : Step
  pub byte : Option ℕ

abbrev pub stepped_by : List Task → ℕ → Moved → Stepped
stepped_by ts i m = record {
  state = record { rules = m.rules; store = m.store; tasks = slice_set ts (i - 1) m.task; taken = m.taken };
  step = m.step;
  byte = m.byte;
}

-- the next visible step of task i, which runs
abbrev pub stepped : World → State → ℕ → Option ℕ → Stepped
stepped w s i input = stepped_by s.tasks i (moved w (task_at s.tasks i) s.store s.rules s.taken i input)

-- the step of the running task, where one runs
abbrev pub step_by : World → State → Option ℕ → Option ℕ → Option Stepped
step_by w s None input = None
step_by w s (Some i) input = Some (stepped w s i input)

abbrev pub one_step : World → State → Option ℕ → Option Stepped
one_step w s input = step_by w s (rules.running s.rules) input

-- one tick of the rules
abbrev pub tick : State → State
tick s = record { rules = rules.tick s.rules; store = s.store; tasks = s.tasks; taken = s.taken }

-- ---- the start

-- a task is about to call its root, with its own supplied data
abbrev pub task_of : Proc → Task
task_of f = about_to f first_own

abbrev pub tasks_of : List Proc → List Task
tasks_of fs = map task_of fs

abbrev pub start : Store → List Proc → List ℕ → State
start S roots priorities = record { rules = rules.start priorities; store = S; tasks = tasks_of roots; taken = 0 }
