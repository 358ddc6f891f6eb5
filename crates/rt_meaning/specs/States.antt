-- What the code keeps of a system and of its tasks, as plain data.
use Rattle.std.specs.Prelude.{ℕ, Bool, true, false, List, [], ◌∷◌, map, Option, Some, None}
use Rattle.rt_tree_nodes.specs.declared.store.Datum.{Datum}
use Rattle.rt_rules.specs.declared.service.Svc.{Svc}
use Rattle.rt_rules.specs.declared.service.Outcome.{Outcome}
use Rattle.rt_rules.specs.declared.service.Outcome.TheVariants.{Go, Error}
use Rattle.rt_work_state.specs.declared.request.Request.{Request}
use Rattle.rt_work_state.specs.declared.request.Request.TheVariants.{Rules}
use Rattle.rt_tree_nodes.specs.declared.step.Step.TheVariants as step
use Rattle.rt_work_state.specs.declared.scene.Scene.{Scene}
use Rattle.rt_work_state.specs.declared.scene.Next.{Next as NextNode}
use Rattle.rt_resolve.specs.declared.code.ModuleCode.{ModuleCode}
use Rattle.rt_meaning.specs.declared.system.Act.{Act as ActNode}
use Rattle.rt_meaning.specs.declared.system.Ending.{Ending}
use Rattle.rt_meaning.specs.declared.system.Ending.TheVariants as ending
use Rattle.rt_meaning.specs.declared.system.Task.{Task as TaskNode}
use Rattle.rt_resolve.specs.World.{world}
use Rattle.rt_work_state.specs.Stores.{Store}
use Rattle.rt_work_state.specs.Nodes as n
use Rattle.rt_work_state.specs.Items.{Item, Next}
use Rattle.rt_meaning.specs.declared.common.Common.{Common}
use Rattle.rt_meaning.specs.Step.{Act, Task, Over, Failed, Doing, with_todo, asked, answers, served, act as step_of}
use Rattle.rt_meaning.specs.Run.{Served, Moved, moved_by, serve}
use Rattle.rt_tree_nodes.specs.declared.step.Step.{Step}

-- ---- the tasks

abbrev pub act : ActNode → Act
act a = record { proc = a.proc; todo = n.items a.scene.todo; values = a.scene.values; locals = a.scene.locals; kept = a.kept }

abbrev pub acts : List ActNode → List Act
acts [] = []
acts (a ∷ rest) = act a ∷ acts rest

abbrev pub doing : TaskNode → Task
doing t = Doing (act t.act) (acts t.callers) t.own

abbrev pub ended_as : Ending → List Datum → Task
ended_as ending.Over own = Over own
ended_as (ending.Failed k) own = Failed k own

abbrev pub task_by : Option Ending → TaskNode → Task
task_by None t = doing t
task_by (Some e) t = ended_as e t.own

abbrev pub task : TaskNode → Task
task t = task_by t.ended t

abbrev pub tasks : List TaskNode → List Task
tasks ts = map task ts

-- an activation of the same procedure with another scene
abbrev pub with_scene : ActNode → Scene → Act
with_scene a s = with_todo (act a) (n.items s.todo) s.values s.locals

-- the next visible step, with what the scene has left to be done
abbrev pub made : NextNode → Scene → Next
made x s = n.made x (n.items s.todo) s.values s.locals

-- ---- the steps

-- where a service that came to this may want memory
abbrev pub wants_memory : Svc → Outcome → Bool
wants_memory service (Go k) = answers (Rules service)
wants_memory service (Error k) = true
wants_memory service _ = false

-- what a service leaves
abbrev pub served_by : Served → Task → Store → Moved
served_by s t S = record { rules = s.rules; taken = s.taken; store = S; task = t; step = step.Service; byte = s.byte }

abbrev pub served_to : Common → TaskNode → Option ℕ → Moved
served_to c t byte = record { rules = c.rules; taken = c.taken; store = c.store; task = task t; step = step.Service; byte = byte }

abbrev pub serves_as : Request → Common → TaskNode → List Item → Served → Moved
serves_as r c t todo s = served_by s (served r s.outcome todo (act t.act) (acts t.callers) t.own) c.store

abbrev pub serves : Request → Common → TaskNode → List Item → ℕ → Option ℕ → Moved
serves r c t todo i input = serves_as r c t todo (serve c.rules c.taken i input r)

-- the same task and what is common, after a step
abbrev pub moved : Common → TaskNode → Step × Option ℕ → Moved
moved c t x = record { rules = c.rules; taken = c.taken; store = c.store; task = task t; step = x.0; byte = x.1 }

-- a task whose act has this next visible step
abbrev pub moves : List ModuleCode → Next → Common → TaskNode → ℕ → Option ℕ → Served → Moved
moves ms x c t i input served = moved_by served (step_of (world ms) x (act t.act) (acts t.callers) t.own c.store served.outcome)

abbrev pub moves_by : List ModuleCode → Next → Common → TaskNode → ℕ → Option ℕ → Moved
moves_by ms x c t i input = moves ms x c t i input (serve c.rules c.taken i input (asked x))
