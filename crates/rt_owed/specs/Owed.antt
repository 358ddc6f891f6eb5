-- What is left of a linked system for it to be built: its modules alone give it.
use Rattle.std.specs.Prelude.{◌≡◌, ◌≢◌, ℕ, false, List, [], Some, slice_get}
use Rattle.rt_modes.specs.declared.mode.Mode.{Mode}
use Rattle.rt_modes.specs.declared.mode.RecordDef.{RecordDef}
use Rattle.rt_tree_nodes.specs.declared.brick.Brick.{Brick}
use Rattle.rt_tree_nodes.specs.declared.brick.BrickSort.TheVariants as sort
use Rattle.rt_tree_nodes.specs.declared.brick.ModuleParts.{ModuleParts}
use Rattle.rt_tree_nodes.specs.declared.brick.ProcBody.{ProcBody}
use Rattle.rt_tree.specs.Depth.{sequence_recovers}
use Rattle.rt_tree.specs.Stored.{System, HasBrick, module_of}
use Rattle.rt_tree.specs.Within.{Within, tree_of}
use Rattle.rt_system.specs.declared.parts.Task.{Task}
use Rattle.rt_image.specs.declared.image.ImageParts.{ImageParts}
use Rattle.rt_image.specs.declared.map.Map.{Map}
use Rattle.rt_object.specs.declared.object.ObjectParts.{ObjectParts}
use Rattle.rt_match.specs.declared.bindings.Bound.{Bound}
use Rattle.rt_tree_nodes.specs.declared.store.Proc.{Proc}
use Rattle.rt_lower.specs.declared.layouts.Layouts.{Layouts}
use Rattle.rt_meaning_laws.specs.Modules.{ModulesFit}
use Rattle.rt_follows.specs.Whole.{Whole}
use Rattle.rt_support_meaning.specs.Support.{AllReport}
use Rattle.rt_imaged.specs.Whole.{whole_of, IsSystem}
use Rattle.rt_bound.specs.Laws.{BindingsLead}
use Rattle.rt_seam.specs.Seam.{AllOwed}

-- What is asked of modules besides that they fit: each record has a field, and procedures stay within what their items allow and recover
-- nowhere.
pub record ModulesStay (ps : System) : Type 0 where
  pub filled : (m r : ℕ) (p : ModuleParts) (d : RecordDef) → module_of ps m ≡ Some p → slice_get p.modes.records r ≡ Some d → d.fields ≢ []
  pub within : (m : ℕ) (p : ModuleParts) → module_of ps m ≡ Some p → Within p
  pub steady : (m b : ℕ) (p : ModuleParts) (d : Brick) (mode : Mode) (body : ProcBody) → HasBrick ps m b p d → d.sort ≡ sort.Proc mode (Some body) → sequence_recovers (tree_of p body) ≡ false

-- What is left of each procedure that is reached, and of those that may be told of an error.
pub record IsOwed (w : Whole) (ls : List Layouts) (objects : List ObjectParts) (stacks : List Proc) (of : List (List Bound)) : Type 0 where
  pub reports : AllReport w
  pub procs : AllOwed w ls objects stacks of

-- Nothing is left open of an accepted system.
abbrev pub SystemsAreOwed : Type 0
SystemsAreOwed =
    BindingsLead → (ps : System) (ls : List Layouts) (objects : List ObjectParts) (tasks : List Task) (image : ImageParts) (map : Map) (s : IsSystem ps ls objects tasks image map) → ModulesFit ps → ModulesStay ps
    → let known = s.linked.known in IsOwed (whole_of ps ls objects known image) ls objects known.stacks known.bindings.of
