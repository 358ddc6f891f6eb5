-- One task: its activations, and one visible step of it over a store.
--
-- `task_step w t S answer` does the invisible work of task t and then its next visible step over store S; `answer` is what
-- comes of a service, and has no effect where the step is none. It gives the task, the store, the step, and which location
-- was read or written: at most one.
use Rattle.std.specs.Prelude.{ℕ, ◌-◌, Bool, true, false, List, [], ◌∷◌, ◌++◌, Option, Some, None, length, replicate}
use Rattle.rt_tree_nodes.specs.declared.store.Proc.{Proc}
use Rattle.rt_tree_nodes.specs.declared.store.Datum.{Datum}
use Rattle.rt_tree_nodes.specs.declared.store.Datum.TheVariants.{Word, Reference}
use Rattle.rt_tree_nodes.specs.declared.step.Step.{Step}
use Rattle.rt_tree_nodes.specs.declared.step.Step.TheVariants as step
use Rattle.rt_rules.specs.declared.service.Svc.TheVariants as svc
use Rattle.rt_rules.specs.declared.service.Outcome.{Outcome}
use Rattle.rt_rules.specs.declared.service.Outcome.TheVariants.{Go, Waits, Error, Ends}
use Rattle.rt_work_state.specs.declared.request.Request.{Request}
use Rattle.rt_work_state.specs.declared.request.Request.TheVariants.{Nothing, Takes, Rules}
use Rattle.rt_resolve.specs.World.{Code, World}
use Rattle.rt_tree_nodes.specs.declared.store.Location.{Location}
use Rattle.rt_work_state.specs.Stores.{Store, read, write, write_own, erp, erl_in}
use Rattle.rt_work_state.specs.Items.{Item, Do, Fetch, Report, GiveUp, Leave, Begin, Serve, Next, Reads, Writes, Calls, Returns, Jumps, Leaps, Asks, Recovers, Errors, Lacks, from_label}
use Rattle.rt_work.specs.Task.{next}

-- ---- tasks

-- an activation of a procedure
pub record Act : Type 0 where
  pub proc : Proc
  pub todo : List Item
  pub values : List Datum
  pub locals : List Datum
  pub kept : Datum  -- what ERL held at its call

-- A task has ended, has ended with a number, or has an innermost activation and its callers. Its own supplied data stay when
-- it ends.
pub data Task : Type 0 where
  Over : (own : List Datum) → Task
  Failed : (n : ℕ) (own : List Datum) → Task
  Doing : (act : Act) (callers : List Act) (own : List Datum) → Task

-- a task's own supplied data
abbrev pub own_of : Task → List Datum
own_of (Over own) = own
own_of (Failed n own) = own
own_of (Doing a callers own) = own

-- a location that is read or written
pub record Touch : Type 0 where
  pub at : Location
  pub wrote : Bool

pub record After : Type 0 where
  pub task : Task
  pub store : Store
  pub step : Step
  pub touched : Option Touch

abbrev pub with_todo : Act → List Item → List Datum → List Datum → Act
with_todo a todo vs ls = record { proc = a.proc; todo = todo; values = vs; locals = ls; kept = a.kept }

-- the parameters, and 0 for each further local
abbrev pub locals_of : List Datum → ℕ → List Datum
locals_of args size = args ++ replicate (size - length args) (Word 0)

-- the activation of a procedure, where ERL holds this; a supplied one has a service to do
abbrev pub entered : Option Code → Proc → List Datum → Datum → Act
entered (Some c) f args kept = record { proc = f; todo = Do c.body ∷ Leave ∷ []; values = []; locals = locals_of args c.size; kept = kept }
entered None f args kept = record { proc = f; todo = Serve f.brick ∷ Leave ∷ []; values = args; locals = []; kept = kept }

abbrev pub on_values : Option Datum → List Datum → List Datum
on_values None vs = vs
on_values (Some v) vs = v ∷ vs

-- the caller goes on with the result on its values
abbrev pub returned : Option Datum → List Act → List Datum → Task
returned v [] own = Over own
returned v (a ∷ callers) own = Doing (with_todo a a.todo (on_values v a.values) a.locals) callers own

abbrev pub todo_in : Option (List Item) → List Item
todo_in None = []
todo_in (Some todo) = todo

-- what is to be done from a label of a procedure on
abbrev pub leapt : Option Code → ℕ → List Item
leapt None l = []
leapt (Some c) l = todo_in (from_label l c.body (Leave ∷ []))

-- whether a service gives its procedure a result
abbrev pub answers : Request → Bool
answers Takes = true
answers (Rules svc.Clock) = true
answers (Rules svc.TaskNo) = true
answers _ = false

abbrev pub answer_by : Bool → ℕ → List Item → Act → Act
answer_by true n todo a = with_todo a (GiveUp ∷ []) (Word n ∷ []) a.locals
answer_by false n todo a = with_todo a todo [] a.locals

abbrev pub ended_by : Request → List Datum → Task
ended_by (Rules (svc.Gel n)) own = Failed n own
ended_by _ own = Over own

-- The task after a service, by what came of it. After a recoverable error n it reads ERP and calls it with n, and then
-- returns from the service's procedure.
abbrev pub served : Request → Outcome → List Item → Act → List Act → List Datum → Task
served r (Go n) todo a callers own = Doing (answer_by (answers r) n todo a) callers own
served r Waits todo a callers own = Doing (with_todo a todo [] a.locals) callers own
served r (Error n) todo a callers own = Doing (with_todo a (Fetch ∷ Report n ∷ todo) (Reference erp ∷ []) a.locals) callers own
served r Ends todo a callers own = ended_by r own

abbrev pub reads_at : Location → Option Touch
reads_at p = Some (record { at = p; wrote = false })

abbrev pub writes_at : Location → Option Touch
writes_at p = Some (record { at = p; wrote = true })

-- a visible step of activation a over store S, where a service has this outcome
abbrev pub act : World → Next → Act → List Act → List Datum → Store → Outcome → After
act w (Reads p todo vs ls) a callers own S o =
    record { task = Doing (with_todo a todo (read S own p ∷ vs) ls) callers own; store = S; step = step.Read; touched = reads_at p }
act w (Writes p v todo vs ls) a callers own S o =
    record { task = Doing (with_todo a todo vs ls) callers (write_own own p v); store = write S p v; step = step.Write; touched = writes_at p }
act w (Calls f args todo vs ls) a callers own S o =
    record { task = Doing (entered (w.code f) f args (erl_in own)) (with_todo a todo vs ls ∷ callers) own; store = S; step = step.Call; touched = None }
act w (Returns v) a callers own S o = record { task = returned v callers own; store = S; step = step.Return; touched = None }
act w (Jumps todo vs ls) a callers own S o =
    record { task = Doing (with_todo a todo vs ls) callers own; store = S; step = step.Jump; touched = None }
act w (Leaps l ls) a callers own S o =
    record { task = Doing (with_todo a (leapt (w.code a.proc) l) [] ls) callers own; store = S; step = step.Jump; touched = None }
act w (Asks r todo) a callers own S o =
    record { task = served r o todo a callers own; store = S; step = step.Service; touched = None }
act w (Recovers l todo vs ls) a callers own S o =
    record { task = Doing (with_todo a todo vs ls) callers own; store = S; step = step.Write; touched = None }
act w (Errors n) a callers own S o = record { task = Failed n own; store = S; step = step.Error n; touched = None }
act w Lacks a callers own S o = record { task = Failed 0 own; store = S; step = step.Jump; touched = None }

-- the next visible step of an activation
abbrev pub next_of : World → Act → Next
next_of w a = next (w.env a.proc.module) a.todo a.values a.locals

-- an error that ends the task asks the supervisor for its end
abbrev pub asked : Next → Request
asked (Asks r todo) = r
asked (Errors n) = Rules (svc.Gel n)
asked _ = Nothing

-- what the next step of a task asks for
abbrev pub request : World → Task → Request
request w (Doing a callers own) = asked (next_of w a)
request w _ = Nothing

-- the next visible step of a task; one that has ended has none, and stays as it is
abbrev pub task_step : World → Task → Store → Outcome → After
task_step w (Doing a callers own) S o = act w (next_of w a) a callers own S o
task_step w t S o = record { task = t; store = S; step = step.Jump; touched = None }

-- a task that is about to call its root, and ends after the root's return by a service
abbrev pub about_to : Proc → List Datum → Task
about_to f own = Doing (record { proc = f; todo = Begin f ∷ Serve 11 ∷ []; values = []; locals = []; kept = erl_in own }) [] own
