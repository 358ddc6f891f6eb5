-- What the modules of texts have together.
use Rattle.std.proofs.Common.{◌≡◌, ℕ, zero, suc, Some}
use Rattle.rt_tree_nodes.specs.declared.brick.ModuleParts.{ModuleParts}
use Rattle.rt_tree.specs.Opened.{IsTable}
use Rattle.rt_tree.specs.Stored.{System, module_of}
use Rattle.rt_tree_laws.specs.DataItems.{FullDataOpen}
use Rattle.rt_resolve.specs.Matching.{Matched, no_records}
use Rattle.rt_bricks_laws.proofs.AllLists.{no_some, all_get}
use Rattle.rt_meaning_laws.specs.Laws.{ModulesMakeSystems}
use Rattle.rt_meaning_laws.specs.Levels.{of_module, of_supplied}
use Rattle.rt_meaning_laws.specs.Modules.{ModulesFit}
use Rattle.rt_meaning_laws.proofs.Soundness.{sound}
use Rattle.rt_text_laws.specs.Trees.{TreePromise, TreesPromise}
use Rattle.rt_text_laws.specs.Systems.{TablesAreKnown, FittingModulesPromise, HasText, TextsPromiseAll, ListsHaveTexts}

-- ---- tables

no_records_table : IsTable no_records
no_records_table = record { names = λ r d e. no_some d e; apart = λ r q d n e h. no_some d e; some = λ r d e. no_some d e; fields = λ r d e. no_some d e }

known : (ps : System) → ((m : ℕ) (p : ModuleParts) → module_of ps m ≡ Some p → IsTable p.modes) → TablesAreKnown ps
known ps tables _ (of_module m {p} e) = tables m p e
known ps tables _ of_supplied = no_records_table

pub fitting_modules_promise : ModulesMakeSystems → FittingModulesPromise
fitting_modules_promise make ps f = let fits = make ps f in record { system_fits = fits; modes_are_sound = sound ps fits; tables_are_known = known ps (λ m p e. f.tables m e) }

-- ---- texts

pub lists_have_texts : ListsHaveTexts
lists_have_texts ps h zero p e = no_some p e
lists_have_texts ps h (suc m) p e = all_get HasText ps m p h e

modules_fit : FullDataOpen → (ps : System) → ((m : ℕ) (p : ModuleParts) → module_of ps m ≡ Some p → TreePromise p) → Matched ps → ModulesFit ps
modules_fit opened ps each matched = record {
  nodes = λ m {p} e. (each m p e).nodes_fit;
  numbers = λ m p e. (each m p e).numbers_fit;
  named = λ {m} {b} {p} {d} has here w body ws o is opens. (each m p has.of).locals_have_values b d w body has.at is ws o opens;
  matched = matched;
  tables = λ m {p} e. (each m p e).records_are_table;
  data_modes = λ m b n c p q d e fs gs ss ts hd sd own he se other same.
      let l = each m p hd.of in
      let r = each n q he.of in
      opened p.modes q.modes fs gs l.records_are_table r.records_are_table (l.items_are_fields b d fs ss hd.at sd own) (r.items_are_fields c e gs ts he.at se other) same;
}

pub texts_promise : TreesPromise → FittingModulesPromise → FullDataOpen → TextsPromiseAll
texts_promise trees fitting opened ps of =
    let each : (m : ℕ) (p : ModuleParts) → module_of ps m ≡ Some p → TreePromise p = λ m p e. let t = of m p e in trees t.text p t.is_tree in
    let fit : Matched ps → ModulesFit ps = modules_fit opened ps each in
    record {
      each = each;
      tables_are_known = known ps (λ m p e. (each m p e).records_are_table);
      modules_fit = fit;
      system_fits = λ matched. (fitting ps (fit matched)).system_fits;
      modes_are_sound = λ matched. (fitting ps (fit matched)).modes_are_sound;
    }
