-- The step of one task in the list of all.
use Rattle.std.proofs.Common.{◌≡◌, ℕ, zero, suc, ◌+◌, ◌-◌, ◌<◌, ◌≤◌, List, [], ◌∷◌, Option, Some, Result, Ok, Err, IfOk, OnErr, length, get_or, slice_get, refl, ap, ◌∙◌, sym, subst, arith}
use Rattle.std.proofs.Math.ListN.{set}
use Rattle.rt_tree_nodes.specs.declared.step.Step.{Step}
use Rattle.rt_rules.specs.Roster.{InRanges}
use Rattle.rt_rules.specs.Rules.{running}
use Rattle.rt_meaning.specs.declared.common.Common.{Common}
use Rattle.rt_resolve.specs.declared.code.ModuleCode.{ModuleCode}
use Rattle.rt_meaning.specs.declared.system.Task.{Task as TaskNode}
use Rattle.rt_meaning.specs.Step.{Task, request}
use Rattle.rt_meaning.specs.Run as run
use Rattle.rt_meaning.specs.Run.{Moved, Stepped, stepped_by, task_in, one_step}
use Rattle.rt_resolve.specs.World.{world}
use Rattle.rt_meaning.specs.States.{task, tasks, moved}
use Rattle.std.proofs.lemmas.List.{length-map}
use Rattle.rt_rules.specs.Rules.{rows_from}
use Rattle.rt_rules.proofs.Starts.{length-rows_from}
use Rattle.rt_meaning.specs.declared.begin.SourceTask.{SourceTask}
use Rattle.rt_meaning.specs.Roots.{root_of, priority_of, roots, priorities}
use Rattle.rt_meaning.proofs.Counts.{length_served, raised_served}

tasks_set : (ts : List TaskNode) (k : ℕ) (t : TaskNode) → tasks (set ts k t) ≡ set (tasks ts) k (task t)
tasks_set [] k t = refl
tasks_set (s ∷ ss) zero t = refl
tasks_set (s ∷ ss) (suc k) t = ap (λ us. task s ∷ us) (tasks_set ss k t)

task_got : (ts : List TaskNode) (k : ℕ) (d : TaskNode) → k < length ts → slice_get (tasks ts) k ≡ Some (task (get_or ts k d))
task_got [] k d h = absurd (omega arith)
task_got (s ∷ ss) zero d h = refl
task_got (s ∷ ss) (suc k) d h = task_got ss k d (omega arith)

pub stepped_state : (ms : List ModuleCode) (c now : Common) (ts : List TaskNode) (t u : TaskNode) (i : ℕ) (input : Option ℕ) (x : Step × Option ℕ) → running c.rules ≡ Some i → i - 1 < length ts → t ≡ get_or ts (i - 1) t → moved now u x ≡ run.moved (world ms) (task t) c.store c.rules c.taken i input → one_step (world ms) (record { rules = c.rules; store = c.store; tasks = tasks ts; taken = c.taken }) input ≡ Some (record { state = record { rules = now.rules; store = now.store; tasks = tasks (set ts (i - 1) u); taken = now.taken }; step = x.0; byte = x.1 })
stepped_state ms c now ts t u i input x r h e m =
    let got : slice_get (tasks ts) (i - 1) ≡ Some (task t) = task_got ts (i - 1) t h ∙ ap (λ (s : TaskNode). Some (task s)) (sym e) in
    rw r refl
    ∙ ap (λ (o : Option Task). Some (stepped_by (tasks ts) i (run.moved (world ms) (task_in o) c.store c.rules c.taken i input))) got
    ∙ ap (λ (y : Moved). Some (stepped_by (tasks ts) i y)) (sym m)
    ∙ rw tasks_set refl

-- the step keeps the number of tasks
pub stepped_count : (ms : List ModuleCode) (c now : Common) (t u : TaskNode) (i : ℕ) (input : Option ℕ) (x : Step × Option ℕ) → InRanges c.rules → moved now u x ≡ run.moved (world ms) (task t) c.store c.rules c.taken i input → length now.rules.tasks ≡ length c.rules.tasks
stepped_count ms c now t u i input x g m =
    ap (λ (y : Moved). length y.rules.tasks) m ∙ length_served c.rules c.taken i input (request (world ms) (task t)) g

pub count_kept : {E : Type 0} (ms : List ModuleCode) (c now : Common) (t u : TaskNode) (i : ℕ) (input : Option ℕ) (result : Result (Step × Option ℕ) E) → InRanges c.rules → IfOk result (λ x. moved now u x ≡ run.moved (world ms) (task t) c.store c.rules c.taken i input) → OnErr result (now ≡ c) → length now.rules.tasks ≡ length c.rules.tasks
count_kept ms c now t u i input (Ok x) g m same = stepped_count ms c now t u i input x g m
count_kept ms c now t u i input (Err e) g m same = ap (λ (k : Common). length k.rules.tasks) same

-- as many tasks as roots, and as many rows
pub starting_count : (all : List TaskNode) (ts : List SourceTask) → tasks all ≡ run.tasks_of (roots ts) → length all ≡ length (rows_from 0 (priorities ts))
starting_count all ts e =
    sym (length-map all task) ∙ ap length e ∙ length-map (roots ts) run.task_of ∙ length-map ts root_of ∙ sym (length-rows_from 0 (priorities ts) ∙ length-map ts priority_of)

stepped_raised : (ms : List ModuleCode) (c now : Common) (t u : TaskNode) (i : ℕ) (input : Option ℕ) (x : Step × Option ℕ) → InRanges c.rules → running c.rules ≡ Some i → moved now u x ≡ run.moved (world ms) (task t) c.store c.rules c.taken i input → (now.rules.clock ≡ c.rules.clock) × (now.rules.stamp ≤ c.rules.stamp + 32)
stepped_raised ms c now t u i input x g e m =
    subst (λ (y : Moved). (y.rules.clock ≡ c.rules.clock) × (y.rules.stamp ≤ c.rules.stamp + 32)) (sym m) (raised_served c.rules c.taken i input (request (world ms) (task t)) g e)

pub raised_kept : {E : Type 0} (ms : List ModuleCode) (c now : Common) (t u : TaskNode) (i : ℕ) (input : Option ℕ) (result : Result (Step × Option ℕ) E) → InRanges c.rules → running c.rules ≡ Some i → IfOk result (λ x. moved now u x ≡ run.moved (world ms) (task t) c.store c.rules c.taken i input) → OnErr result (now ≡ c) → (now.rules.clock ≡ c.rules.clock) × (now.rules.stamp ≤ c.rules.stamp + 32)
raised_kept ms c now t u i input (Ok x) g e m same = stepped_raised ms c now t u i input x g e m
raised_kept ms c now t u i input (Err err) g e m same = rw same (refl, omega arith)
