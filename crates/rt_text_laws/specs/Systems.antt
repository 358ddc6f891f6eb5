-- What the modules of texts have together.
use Rattle.std.specs.Prelude.{◌≡◌, ℕ, List, Some}
use Rattle.std.specs.List.{AllByRecursion}
use Rattle.rt_modes.specs.declared.mode.ModeTable.{ModeTable}
use Rattle.rt_tree_nodes.specs.declared.brick.ModuleParts.{ModuleParts}
use Rattle.rt_tree.specs.Opened.{IsTable}
use Rattle.rt_tree.specs.Stored.{System, module_of}
use Rattle.rt_resolve.specs.Matching.{Matched}
use Rattle.rt_check.specs.Texts.{IsTree}
use Rattle.rt_meaning_laws.specs.Grounds.{Sound}
use Rattle.rt_meaning_laws.specs.Levels.{IsTableOf}
use Rattle.rt_meaning_laws.specs.Modules.{ModulesFit}
use Rattle.rt_meaning_laws.specs.Systems.{SystemFits}
use Rattle.rt_text_laws.specs.Trees.{TreePromise}

-- ---- modules that fit

-- the tables of a system: those of its modules, and that of module 0
abbrev pub TablesAreKnown : System → Type 0
TablesAreKnown ps = (t : ModeTable) → IsTableOf ps t → IsTable t

-- What a system of modules that fit has.
pub record SystemPromise (ps : System) : Type 0 where
  pub system_fits : SystemFits ps
  pub modes_are_sound : Sound ps
  pub tables_are_known : TablesAreKnown ps

abbrev pub FittingModulesPromise : Type 0
FittingModulesPromise = (ps : System) → ModulesFit ps → SystemPromise ps

-- ---- modules of texts

-- The module is the typed tree of some text.
pub record HasText (p : ModuleParts) : Type 0 where
  pub text : List ℕ
  pub is_tree : IsTree text p

-- So is each module of the system.
abbrev pub AllHaveTexts : System → Type 0
AllHaveTexts ps = (m : ℕ) (p : ModuleParts) → module_of ps m ≡ Some p → HasText p

-- What such modules have, each by itself and all together, and what they have where they match.
pub record TextsPromise (ps : System) : Type 0 where
  pub each : (m : ℕ) (p : ModuleParts) → module_of ps m ≡ Some p → TreePromise p
  pub tables_are_known : TablesAreKnown ps
  pub modules_fit : Matched ps → ModulesFit ps
  pub system_fits : Matched ps → SystemFits ps
  pub modes_are_sound : Matched ps → Sound ps

abbrev pub TextsPromiseAll : Type 0
TextsPromiseAll = (ps : System) → AllHaveTexts ps → TextsPromise ps

-- Modules that have texts one by one all have.
abbrev pub ListsHaveTexts : Type 0
ListsHaveTexts = (ps : List ModuleParts) → AllByRecursion HasText ps → AllHaveTexts ps
