-- What modules that fit, and the ranges of objects, say of trees.
use Rattle.std.specs.Prelude.{◌≡◌, ◌≢◌, ℕ, List, [], Some, slice_get}
use Rattle.rt_modes.specs.declared.mode.RecordDef.{RecordDef}
use Rattle.rt_tree_nodes.specs.declared.brick.ModuleParts.{ModuleParts}
use Rattle.rt_tree.specs.Stored.{System, module_of}
use Rattle.rt_object.specs.declared.object.ObjectParts.{ObjectParts}
use Rattle.rt_system.specs.declared.parts.Task.{Task}
use Rattle.rt_image.specs.declared.image.ImageParts.{ImageParts}
use Rattle.rt_image.specs.declared.map.Map.{Map}
use Rattle.rt_lower.specs.declared.layouts.Layouts.{Layouts}
use Rattle.rt_meaning_laws.specs.Modules.{ModulesFit}
use Rattle.rt_imaged.specs.Whole.{IsSystem}
use Rattle.rt_imaged.specs.Trees.{TreesAre}

-- all but that each record has a field
abbrev pub TreesOfModules : Type 0
TreesOfModules =
    (ps : System) (ls : List Layouts) (objects : List ObjectParts) (tasks : List Task) (image : ImageParts) (map : Map) (s : IsSystem ps ls objects tasks image map) → ModulesFit ps
    → ((m r : ℕ) (p : ModuleParts) (d : RecordDef) → module_of ps m ≡ Some p → slice_get p.modes.records r ≡ Some d → d.fields ≢ []) → TreesAre ps
