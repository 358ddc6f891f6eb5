-- What YES means for every source run. These are the statements; what is proved towards them stands in the other files here.
use Rattle.std.specs.Prelude.{◌≡◌, ℕ, Bool, true, List, Some}
use Rattle.std.specs.List.{Contains}
use Rattle.rt_tree_nodes.specs.declared.store.Location.{Location}
use Rattle.rt_tree_nodes.specs.declared.store.Location.TheVariants as location
use Rattle.rt_tree_nodes.specs.declared.store.Origin.TheVariants.{Brick}
use Rattle.rt_tree_nodes.specs.declared.store.Proc.{Proc}
use Rattle.rt_rules.specs.declared.service.Outcome.TheVariants.{Go}
use Rattle.rt_rules.specs.Roster.{owner_of, IsNumber}
use Rattle.rt_rules.specs.Rules.{running}
use Rattle.rt_tree.specs.Stored.{System}
use Rattle.rt_resolve.specs.Systems.{world}
use Rattle.rt_meaning.specs.declared.begin.SourceTask.{SourceTask}
use Rattle.rt_meaning.specs.Roots.{roots}
use Rattle.rt_meaning.specs.Run.{State, task_at}
use Rattle.rt_meaning.specs.Runs.{Reached, system_run}
use Rattle.rt_meaning.specs.Step.{Touch, task_step}
use Rattle.rt_meaning_laws.specs.Modules.{ModulesFit}
use Rattle.rt_meaning_laws.specs.SourceRuns.{AreBytes}
use Rattle.rt_meaning_laws.specs.Starting.{TasksMatch}
use Rattle.rt_guarded.specs.Tests.{Guard, Passes}
use Rattle.rt_guards_laws.specs.Rings.{NoRing}

-- a location is a place of the brick
abbrev pub IsIn : Proc → Location → Type 0
IsIn g (location.Shared (Brick m b) path) = (m ≡ g.module) × (b ≡ g.brick)
IsIn g _ = ⊥

-- the next step of task i touches a place of the brick; what comes of a service is no part of it
abbrev pub TouchesNext : System → State → ℕ → Proc → Type 0
TouchesNext ps s i g = (x : Touch) × ((task_step (world ps) (task_at s.tasks i) s.store (Go 0)).touched ≡ Some x) × IsIn g x.at

-- Where the next step touches the brick, the task that makes it owns the facility.
abbrev pub IsMadeByOwner : System → Guard → State → Type 0
IsMadeByOwner ps g s = (i : ℕ) → running s.rules ≡ Some i → TouchesNext ps s i g.brick → owner_of s.rules g.facility ≡ i

-- Where the verdict is YES, each read or write of a guarded brick's item is made by the task that owns the facility at that moment.
abbrev pub AccessesAreMadeByOwners : Type 0
AccessesAreMadeByOwners =
    (ps : System) (ts : List SourceTask) (guards : List Guard) (order : Bool) (placements input : List ℕ) (n : ℕ) (r : Reached)
    → ModulesFit ps → TasksMatch ps ts → AreBytes input → Passes ps (roots ts) guards order → system_run ps ts placements input n ≡ Some r
    → (g : Guard) → Contains guards g → IsNumber g.facility → IsMadeByOwner ps g r.state

-- Where it is YES for a script that has ORDER, no state of any run has a ring.
abbrev pub NoneWaitInARing : Type 0
NoneWaitInARing =
    (ps : System) (ts : List SourceTask) (guards : List Guard) (placements input : List ℕ) (n : ℕ) (r : Reached)
    → ModulesFit ps → TasksMatch ps ts → AreBytes input → Passes ps (roots ts) guards true → system_run ps ts placements input n ≡ Some r
    → NoRing r.state.rules
