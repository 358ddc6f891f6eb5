-- Tasks end as their rows say, and each begins and ends by the activation of its root.
use Rattle.std.specs.Prelude.{◌≡◌, ◌⊎◌, ℕ, false, List, [], ◌∷◌, Some}
use Rattle.rt_tree_nodes.specs.declared.store.Datum.{Datum}
use Rattle.rt_tree_nodes.specs.declared.store.Proc.{Proc}
use Rattle.rt_rules.specs.declared.task.State.{State as Condition}
use Rattle.rt_rules.specs.declared.task.State.TheVariants as condition
use Rattle.rt_rules.specs.declared.task.TaskRow.{TaskRow}
use Rattle.rt_rules.specs.Roster.{has_ended}
use Rattle.rt_rules.specs.Rules.{running}
use Rattle.rt_tree.specs.Stored.{System}
use Rattle.rt_work_state.specs.Items.{Begin, Serve}
use Rattle.rt_resolve.specs.Systems.{world}
use Rattle.rt_meaning.specs.declared.begin.SourceTask.{SourceTask}
use Rattle.rt_meaning.specs.Roots.{roots}
use Rattle.rt_meaning.specs.Run.{State, task_at}
use Rattle.rt_meaning.specs.Step.{Act, Task, Over, Failed, Doing}
use Rattle.rt_meaning.specs.Whole.{beginning}
use Rattle.rt_meaning_laws.specs.Modules.{ModulesFit}
use Rattle.rt_meaning_laws.specs.Runs.{Happening, after, MayHappen}
use Rattle.rt_meaning_laws.specs.Starting.{TasksMatch}

-- a task is over, has failed with a number, or goes on, where its row says so
abbrev pub EndsAs : Task → Condition → Type 0
EndsAs (Over own) s = s ≡ condition.Ended
EndsAs (Failed n own) s = s ≡ condition.Failed n
EndsAs (Doing a callers own) s = has_ended s ≡ false

-- as many tasks as rows, and each ends as its row says
abbrev pub EndAsRows : List Task → List TaskRow → Type 0
EndAsRows [] [] = Unit {0}
EndAsRows (t ∷ ts) (r ∷ rs) = EndsAs t r.state × EndAsRows ts rs
EndAsRows _ _ = ⊥

-- ---- roots

-- The first activation of a task with root f: it calls the root and then ends the task by a service, or the root has been
-- called.
pub record IsFirst (f : Proc) (a : Act) : Type 0 where
  pub proc : a.proc ≡ f
  pub todo : (a.todo ≡ Begin f ∷ Serve 11 ∷ []) ⊎ (a.todo ≡ Serve 11 ∷ [])

-- the outermost of an activation and its callers
abbrev pub outermost : Act → List Act → Act
outermost a [] = a
outermost a (c ∷ callers) = outermost c callers

abbrev pub IsRooted : Proc → Task → Type 0
IsRooted f (Doing a callers own) = IsFirst f (outermost a callers)
IsRooted f _ = Unit {0}

abbrev pub AllRooted : List Proc → List Task → Type 0
AllRooted [] [] = Unit {0}
AllRooted (f ∷ fs) (t ∷ ts) = IsRooted f t × AllRooted fs ts
AllRooted _ _ = ⊥

-- a state's tasks and rows agree, for tasks with these roots
pub record Agree (fs : List Proc) (s : State) : Type 0 where
  pub ends : EndAsRows s.tasks s.rules.tasks
  pub rooted : AllRooted fs s.tasks

-- ---- the laws

-- So in every state of the run of a system of modules that fit.
abbrev pub EndsAgree : Type 0
EndsAgree = (ps : System) (ts : List SourceTask) (hs : List Happening) → ModulesFit ps → TasksMatch ps ts → MayHappen hs → Agree (roots ts) (after (world ps) (beginning ps ts) hs)

-- So a task that runs hasn't ended.
abbrev pub RunnersGoOn : Type 0
RunnersGoOn = (ps : System) (ts : List SourceTask) (hs : List Happening) (i : ℕ) → ModulesFit ps → TasksMatch ps ts → MayHappen hs
    → let s = after (world ps) (beginning ps ts) hs in running s.rules ≡ Some i → (a : Act) × (callers : List Act) × (own : List Datum) × (task_at s.tasks i ≡ Doing a callers own)
