-- What holds of every visible step, whatever the modules, the task and the store are.
use Rattle.std.specs.Prelude.{◌≡◌, ◌≢◌, ◌⊎◌, ℕ, ◌<◌, Bool, true, false, List, [], Option, Some, None}
use Rattle.rt_tree_nodes.specs.declared.store.Datum.{Datum}
use Rattle.rt_tree_nodes.specs.declared.store.Location.{Location}
use Rattle.rt_tree_nodes.specs.declared.step.Step.TheVariants as step
use Rattle.rt_rules.specs.declared.service.Outcome.{Outcome}
use Rattle.rt_rules.specs.Roster.{Roster}
use Rattle.rt_work_state.specs.Stores.{Store, read, write, write_own, erl_in}
use Rattle.rt_resolve.specs.World.{World}
use Rattle.rt_meaning.specs.Run.{State, Moved, moved, task_at, stepped, tick}
use Rattle.rt_meaning.specs.Step.{Task, Over, Failed, Doing, own_of, Touch, After, task_step}

-- what comes of a service has no effect where the step is none
abbrev pub AnswersServe : Type 0
AnswersServe = (w : World) (t : Task) (S : Store) (o p : Outcome) → (task_step w t S o).step ≢ step.Service → task_step w t S o ≡ task_step w t S p

-- ---- one access

-- two steps leave the same, but for the store
pub record Alike (m k : Moved) : Type 0 where
  pub rules : m.rules ≡ k.rules
  pub taken : m.taken ≡ k.taken
  pub task : m.task ≡ k.task
  pub step : m.step ≡ k.step
  pub byte : m.byte ≡ k.byte

-- A step looks at one location of the store: it leaves every store as it was, and all else the same over two stores that
-- read the same there. `over` tells what the step leaves, by the store that it is over.
pub record LooksAt (over : Store → Moved) (own : List Datum) (p : Location) : Type 0 where
  pub stays : (S : Store) → (over S).store ≡ S
  pub alike : (S R : Store) → read S own p ≡ read R own p → Alike (over S) (over R)

-- A step puts a datum at one location of the store: it is a write, of this datum there in every store, and leaves all else
-- the same whatever the store is.
pub record PutsAt (over : Store → Moved) (p : Location) (d : Datum) : Type 0 where
  pub written : (S : Store) → (over S).store ≡ write S p d
  pub kind : (S : Store) → (over S).step ≡ step.Write
  pub alike : (S R : Store) → Alike (over S) (over R)

-- A step looks at one location and changes none, or puts a datum at one and looks at none.
abbrev pub OneAccess : (Store → Moved) → List Datum → Type 0
OneAccess over own = (p : Location) × (LooksAt over own p ⊎ ((d : Datum) × PutsAt over p d))

-- so does every step of a task, whatever the rules, the bytes taken and the console are
abbrev pub StepsAccessOne : Type 0
StepsAccessOne = (w : World) (t : Task) (r : Roster) (taken i : ℕ) (input : Option ℕ) → OneAccess (λ S. moved w t S r taken i input) (own_of t)

-- ---- one touch, of the store or of the task's own data

-- what a step leaves, by the store that it is over and the own data of the task
abbrev pub Leaving : Type 0
Leaving = Store → List Datum → After

-- the same task with these data of its own
abbrev pub with_own : List Datum → Task → Task
with_own other (Over own) = Over other
with_own other (Failed n own) = Failed n other
with_own other (Doing a callers own) = Doing a callers other

-- two steps leave the same, but for the store and the own data
pub record SameBeside (m k : After) : Type 0 where
  pub task : with_own [] m.task ≡ with_own [] k.task
  pub step : m.step ≡ k.step
  pub touched : m.touched ≡ k.touched

-- every store and all own data stay as they were
abbrev pub Stays : Leaving → Type 0
Stays over = (S : Store) (own : List Datum) → ((over S own).store ≡ S) × (own_of (over S own).task ≡ own)

-- the datum is put at the location, in every store or in all own data
abbrev pub Puts : Location → Datum → Leaving → Type 0
Puts p d over = (S : Store) (own : List Datum) → ((over S own).store ≡ write S p d) × (own_of (over S own).task ≡ write_own own p d)

-- All else is the same whatever store and own data are. A call keeps what ERL holds: that is no touch.
abbrev pub LooksNowhere : Leaving → Type 0
LooksNowhere over = (S R : Store) (own other : List Datum) → erl_in own ≡ erl_in other → SameBeside (over S own) (over R other)

-- all else is the same where the same is read at the location
abbrev pub LooksThere : Location → Leaving → Type 0
LooksThere p over = (S R : Store) (own other : List Datum) → erl_in own ≡ erl_in other → read S own p ≡ read R other p → SameBeside (over S own) (over R other)

-- a step reads at the location, or puts a datum there
abbrev pub TouchesAt : Bool → Location → Leaving → Type 0
TouchesAt false p over = Stays over × LooksThere p over
TouchesAt true p over = (d : Datum) × Puts p d over × LooksNowhere over

-- it does what it is said to touch, and nothing else
abbrev pub Touches : Option Touch → Leaving → Type 0
Touches None over = Stays over × LooksNowhere over
Touches (Some t) over = TouchesAt t.wrote t.at over

-- so does every step of a task
abbrev pub StepsTouchOne : Type 0
StepsTouchOne = (w : World) (t : Task) (S : Store) (o : Outcome) → Touches (task_step w t S o).touched (λ R own. task_step w (with_own own t) R o)

-- ---- other tasks

-- the step of task i leaves every other task as it was
abbrev pub StepsLeaveOthers : Type 0
StepsLeaveOthers = (w : World) (s : State) (i j : ℕ) (input : Option ℕ) → 0 < i → 0 < j → i ≢ j → task_at (stepped w s i input).state.tasks j ≡ task_at s.tasks j

-- a tick leaves every task, and the store
abbrev pub TicksLeaveAll : Type 0
TicksLeaveAll = (s : State) → ((tick s).tasks ≡ s.tasks) × ((tick s).store ≡ s.store)
