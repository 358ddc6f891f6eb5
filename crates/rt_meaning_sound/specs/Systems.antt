-- Systems of modules of texts, and the law of all their runs.
use Rattle.std.specs.Prelude.{◌≡◌, ℕ, List, Some}
use Rattle.std.specs.List.{AllByRecursion}
use Rattle.rt_tree_nodes.specs.declared.brick.ModuleParts.{ModuleParts}
use Rattle.rt_items.specs.Ranges.{IsByte}
use Rattle.rt_tree.specs.Stored.{System, module_of}
use Rattle.rt_resolve.specs.Systems.{world}
use Rattle.rt_meaning.specs.declared.begin.SourceTask.{SourceTask}
use Rattle.rt_meaning.specs.Roots.{roots}
use Rattle.rt_meaning.specs.Whole.{beginning}
use Rattle.rt_meaning.specs.Runs.{Reached, system_run}
use Rattle.rt_meaning_laws.specs.Ends.{Agree}
use Rattle.rt_meaning_laws.specs.Modules.{ModulesFit}
use Rattle.rt_meaning_laws.specs.Runs.{StateFits, NoneLacks, Happening, after, MayHappen}
use Rattle.rt_meaning_laws.specs.SourceRuns.{AreBytes}
use Rattle.rt_meaning_laws.specs.Starting.{TasksMatch}
use Rattle.rt_resolve.specs.Matching.{Matched}
use Rattle.rt_check.specs.Texts.{IsTree}

-- The module is the typed tree of some text.
pub record IsOfText (p : ModuleParts) : Type 0 where
  pub text : List ℕ
  pub bytes : AllByRecursion IsByte text
  pub is_tree : IsTree text p

-- So is each module of the system.
abbrev pub AreOfTexts : System → Type 0
AreOfTexts ps = (m : ℕ) (p : ModuleParts) → module_of ps m ≡ Some p → IsOfText p

-- Modules of texts that match have all that the law of typed stores asks for.
abbrev pub TextsMakeSystems : Type 0
TextsMakeSystems = (ps : System) → AreOfTexts ps → Matched ps → ModulesFit ps

-- A typed store stays typed: in every state of the source run of modules of texts that match, whatever ticks and steps come, the
-- store is typed and each task fits, and no task lacks a value.
abbrev pub StoresOfTextsStayTyped : Type 0
StoresOfTextsStayTyped = (ps : System) (ts : List SourceTask) (hs : List Happening) → AreOfTexts ps → Matched ps → TasksMatch ps ts → MayHappen hs
    → StateFits ps (world ps) (after (world ps) (beginning ps ts) hs) × NoneLacks (world ps) (after (world ps) (beginning ps ts) hs).tasks

-- Whatever such a system's run of so many steps comes to, with these placements of ticks and this input, the store is typed there
-- and each task fits, no task lacks a value, and each ends as its row says.
abbrev pub RunsOfTextsFit : Type 0
RunsOfTextsFit = (ps : System) (ts : List SourceTask) (placements input : List ℕ) (n : ℕ) (r : Reached) → AreOfTexts ps → Matched ps → TasksMatch ps ts → AreBytes input → system_run ps ts placements input n ≡ Some r
    → StateFits ps (world ps) r.state × NoneLacks (world ps) r.state.tasks × Agree (roots ts) r.state
