-- The laws of whole source runs, with their ticks and the input of the console.
use Rattle.std.specs.Prelude.{◌≡◌, ℕ, ◌<◌, List, Some}
use Rattle.std.specs.List.{AllByRecursion}
use Rattle.rt_tree.specs.Stored.{System}
use Rattle.rt_resolve.specs.Systems.{world}
use Rattle.rt_resolve.specs.World.{World}
use Rattle.rt_meaning.specs.declared.begin.SourceTask.{SourceTask}
use Rattle.rt_meaning.specs.Roots.{roots}
use Rattle.rt_meaning.specs.Run.{State}
use Rattle.rt_meaning.specs.Runs.{Reached, source_run, system_run}
use Rattle.rt_meaning_laws.specs.Ends.{Agree}
use Rattle.rt_meaning_laws.specs.Modules.{ModulesFit}
use Rattle.rt_meaning_laws.specs.Runs.{StateFits, NoneLacks}
use Rattle.rt_meaning_laws.specs.Starting.{TasksMatch}
use Rattle.rt_meaning_laws.specs.Tasks.{WorldFits}

-- what a console gives
abbrev pub AreBytes : List ℕ → Type 0
AreBytes input = AllByRecursion (λ b. b < 256) input

-- The run of a state that fits comes to one that fits, in which no task lacks a value.
abbrev pub SourceRunsKeep : Type 0
SourceRunsKeep = (ps : System) (w : World) (s : State) (placements input : List ℕ) (n : ℕ) (r : Reached) → WorldFits ps w → StateFits ps w s → AreBytes input → source_run w s placements input n ≡ Some r
    → StateFits ps w r.state × NoneLacks w r.state.tasks

-- The run of a system of modules that fit comes to a state that fits, in which no task lacks a value, and each ends as its row
-- says.
abbrev pub SystemRunsFit : Type 0
SystemRunsFit = (ps : System) (ts : List SourceTask) (placements input : List ℕ) (n : ℕ) (r : Reached) → ModulesFit ps → TasksMatch ps ts → AreBytes input → system_run ps ts placements input n ≡ Some r
    → StateFits ps (world ps) r.state × NoneLacks (world ps) r.state.tasks × Agree (roots ts) r.state
