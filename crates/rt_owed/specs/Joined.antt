-- From what trees promise, and what is linked of their objects, to an image of them: all joined.
use Rattle.std.specs.Prelude.{◌≡◌, ℕ, ◌*◌, ◌≤◌, true, List, length, Some}
use Rattle.std.specs.List.{All}
use Rattle.rt_modes.specs.declared.mode.Mode.{Mode}
use Rattle.rt_tree_nodes.specs.declared.brick.Brick.{Brick}
use Rattle.rt_tree_nodes.specs.declared.brick.BrickSort.TheVariants as sort
use Rattle.rt_tree_nodes.specs.declared.brick.ModuleParts.{ModuleParts}
use Rattle.rt_tree_nodes.specs.declared.brick.ProcBody.{ProcBody}
use Rattle.rt_tree.specs.Modules.{is_here, every_node_fits}
use Rattle.rt_tree.specs.Opened.{IsTable}
use Rattle.rt_tree.specs.Stored.{System, HasBrick, module_of}
use Rattle.rt_system.specs.declared.parts.Task.{Task}
use Rattle.rt_image.specs.declared.image.ImageParts.{ImageParts}
use Rattle.rt_image.specs.declared.map.Map.{Map}
use Rattle.rt_image.specs.Ranges.{HasImageRanges}
use Rattle.rt_object.specs.declared.object.ObjectParts.{ObjectParts}
use Rattle.rt_object.specs.Ranges.{HasObjectRanges}
use Rattle.rt_link.specs.Linked.{IsLinked}
use Rattle.rt_resolve.specs.Matching.{Matched}
use Rattle.rt_meaning.specs.declared.begin.SourceTask.{SourceTask}
use Rattle.rt_meaning_laws.specs.Modules.{ModulesFit}
use Rattle.rt_follows.specs.Whole.{Whole}
use Rattle.rt_faithful.specs.Imaged.{Imaged}
use Rattle.rt_imaged.specs.Whole.{source_tasks}
use Rattle.rt_bound.specs.Supplied.{SvcItemsNamed}
use Rattle.rt_owed.specs.Owed.{ModulesStay}
use Rattle.rt_owed.specs.Systems.{AreObjectsOf, HaveAtMost}

-- What the typed trees of texts promise: each by itself, and where they match.
pub record ModulesPromise (ps : System) : Type 0 where
  pub tables : (m : ℕ) (p : ModuleParts) → module_of ps m ≡ Some p → IsTable p.modes
  pub nodes : (m : ℕ) (p : ModuleParts) → module_of ps m ≡ Some p → every_node_fits p ≡ true
  pub named : SvcItemsNamed ps
  -- from PROC to ENDPROC there are 6 items at least
  pub long : (m b : ℕ) (p : ModuleParts) (d : Brick) (mode : Mode) (body : ProcBody) → HasBrick ps m b p d → is_here d.kind ≡ true → d.sort ≡ sort.Proc mode (Some body) → 6 ≤ body.items
  pub fit : Matched ps → ModulesFit ps
  pub stay : ModulesStay ps

-- some decision where everything lies, with so small a bound, under which the image is that of the trees
pub record AreImagedSomehow (ps : System) (n : ℕ) (tasks : List SourceTask) (image : ImageParts) : Type 0 where
  pub whole : Whole
  pub modules : whole.ps ≡ ps
  pub bound : whole.bound ≤ 24 * n
  pub imaged : Imaged whole image tasks

-- An image that is linked of objects of such trees is one of the trees; n is the number of items of the longest procedure.
abbrev pub LinkedAreImaged : Type 0
LinkedAreImaged =
    (ps : System) (objects : List ObjectParts) (tasks : List Task) (image : ImageParts) (map : Map) (n : ℕ) → ModulesPromise ps → HaveAtMost ps n
    → AreObjectsOf ps objects → All HasObjectRanges objects → length objects ≤ 64 → (linked : IsLinked objects tasks image map) → HasImageRanges image → AreImagedSomehow ps n (source_tasks tasks linked.known.roots) image
