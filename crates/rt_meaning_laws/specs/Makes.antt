-- Several steps of one task in a row, as one instruction of a machine may make them.
use Rattle.std.specs.Prelude.{◌≡◌, ℕ, zero, suc}
use Rattle.rt_rules.specs.declared.service.Outcome.{Outcome}
use Rattle.rt_rules.specs.declared.service.Outcome.TheVariants.{Go}
use Rattle.rt_tree.specs.Stored.{System}
use Rattle.rt_work_state.specs.declared.request.Request.{Request}
use Rattle.rt_work_state.specs.declared.request.Request.TheVariants.{Nothing}
use Rattle.rt_work_state.specs.Stores.{Store}
use Rattle.rt_resolve.specs.World.{World}
use Rattle.rt_meaning.specs.Answers.{MayCome}
use Rattle.rt_meaning.specs.Step.{Task, Doing, request, task_step}
use Rattle.rt_meaning_laws.specs.Tasks.{WorldFits, TaskFits, TypedStore}

abbrev pub HasntEnded : Task → Type 0
HasntEnded (Doing a callers own) = Unit {0}
HasntEnded _ = ⊥

-- n steps of task t over store S, of which only the last may ask a service, which comes to o, and none before it ends the task.
-- Q holds of what the last one asks, and of the task and the store then.
abbrev pub Makes : World → ℕ → Task → Store → Outcome → (Request → Task → Store → Type 0) → Type 0
Makes w zero t S o Q = Q Nothing t S
Makes w (suc zero) t S o Q = Q (request w t) (task_step w t S o).task (task_step w t S o).store
Makes w (suc (suc n)) t S o Q =
    (request w t ≡ Nothing) × HasntEnded (task_step w t S (Go 0)).task × Makes w (suc n) (task_step w t S (Go 0)).task (task_step w t S (Go 0)).store o Q

-- what comes of the service that the last one asks may come
abbrev pub MayComeLast : World → ℕ → Task → Store → Outcome → Type 0
MayComeLast w zero t S o = Unit {0}
MayComeLast w (suc zero) t S o = MayCome (request w t) o
MayComeLast w (suc (suc n)) t S o = MayComeLast w (suc n) (task_step w t S (Go 0)).task (task_step w t S (Go 0)).store o

-- Such steps of a task that fits leave a typed store and a task that fits.
abbrev pub MakesKeep : Type 0
MakesKeep = (ps : System) (w : World) (n : ℕ) (t : Task) (S : Store) (o : Outcome) → WorldFits ps w → TypedStore ps S → TaskFits ps w t → MayComeLast w n t S o → Makes w n t S o (λ asked u R. Unit {0})
    → Makes w n t S o (λ asked u R. TypedStore ps R × TaskFits ps w u)
