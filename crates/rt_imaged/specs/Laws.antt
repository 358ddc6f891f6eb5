-- What of `Imaged` the layout of a linked system gives.
use Rattle.std.specs.Prelude.{◌≡◌, ℕ, ◌+◌, ◌-◌, ◌*◌, ◌≤◌, true, List, [], ◌∷◌, length, Some, slice_get}
use Rattle.rt_tree_nodes.specs.declared.store.Proc.{Proc}
use Rattle.rt_image.specs.declared.image.ImageTask.{ImageTask}
use Rattle.rt_meaning.specs.declared.begin.SourceTask.{SourceTask}
use Rattle.rt_meaning.specs.Roots.{root_of}
use Rattle.rt_meaning_laws.specs.Starting.{TasksMatch}
use Rattle.pdp_code.specs.declared.instruction.Operand.TheVariants.{Absolute}
use Rattle.pdp_code.specs.declared.instruction.Reg.TheVariants.{Pc}
use Rattle.pdp_code.specs.declared.instruction.Instr.TheVariants.{Call, Trap}
use Rattle.rt_follows.specs.Held.{CodeAt, shown}
use Rattle.rt_tree.specs.Stored.{System}
use Rattle.rt_system.specs.declared.parts.Task.{Task}
use Rattle.rt_image.specs.declared.image.ImageParts.{ImageParts}
use Rattle.rt_image.specs.declared.map.Map.{Map}
use Rattle.rt_image.specs.Laws.{LieInOrder, LieInMemory}
use Rattle.rt_image.specs.Ranges.{HasImageRanges}
use Rattle.rt_link.specs.ImageLaws.{ImagesLieAsLaid}
use Rattle.rt_link.specs.VerdictLaws.{EachHasAStack}
use Rattle.rt_object.specs.declared.object.ObjectParts.{ObjectParts}
use Rattle.rt_meaning_laws.specs.Modules.{ModulesFit}
use Rattle.rt_lower.specs.declared.layouts.Layouts.{Layouts}
use Rattle.rt_modes.specs.declared.mode.ModeTable.{ModeTable}
use Rattle.rt_tree.specs.Opened.{IsTable}
use Rattle.rt_image.specs.Memory.{start_memory}
use Rattle.rt_resolve.specs.Starting.{starting_store}
use Rattle.rt_meaning_laws.specs.Grounds.{Sound}
use Rattle.rt_meaning_laws.specs.Levels.{IsTableOf}
use Rattle.rt_compile.specs.DataLaws.{BytesAreCounted}
use Rattle.rt_laid.specs.Laid.{PlacesLie}
use Rattle.rt_imaged.specs.Trees.{TreesAre, AllResolve}
use Rattle.rt_follows.specs.Whole.{Whole, Home, Sits, Lies}
use Rattle.rt_follows.specs.Linked.{Linked}
use Rattle.rt_faithful.specs.Faithful.{home_of}
use Rattle.rt_faithful.specs.Imaged.{Imaged}
use Rattle.rt_imaged.specs.Whole.{whole_of, source_tasks, IsSystem}

-- The theorem: where `link` accepts objects that are those of modules which fit, and the procedures and the routines run, the image is that of
-- the modules and the roots. (Over `Lays` as it stands `Linked` can't be met: rt_laid, NeverLays.)
abbrev pub SystemsAreImaged : Type 0
SystemsAreImaged =
    (ps : System) (ls : List Layouts) (objects : List ObjectParts) (tasks : List Task) (image : ImageParts) (map : Map) (s : IsSystem ps ls objects tasks image map) → ModulesFit ps → let known = s.linked.known in let w = whole_of ps ls objects known image in
    Linked w → Imaged w image (source_tasks tasks known.roots)

-- the landed laws that are cited; a function calls images_lie_as_laid, each_has_a_stack (both rt_link) and images_lie_in_memory (rt_image)
pub record Landed : Type 0 where
  pub laid : ImagesLieAsLaid
  pub stacks : EachHasAStack
  pub order : (i : ImageParts) → HasImageRanges i → LieInOrder i
  pub memory : (i : ImageParts) → HasImageRanges i → LieInMemory i

-- the parts of each task lie behind the data, one after the other
abbrev pub PartsSit : Type 0
PartsSit =
    Landed → (ps : System) (ls : List Layouts) (objects : List ObjectParts) (tasks : List Task) (image : ImageParts) (map : Map) (s : IsSystem ps ls objects tasks image map) → (i : ℕ) → 1 ≤ i → i ≤ length tasks
    → Sits (whole_of ps ls objects s.linked.known image) (home_of image i)

-- ---- the places and the starting store

-- Where an accepted system's objects are those of trees, places lie as is asked of them; and where its relocations resolve, the starting store
-- lies in the image.
pub record PlacesAndStarts (w : Whole) (image : ImageParts) : Type 0 where
  pub places : PlacesLie w
  pub starts : Lies w (starting_store w.ps) (start_memory image)

abbrev pub SystemsLie : Type 0
SystemsLie =
    Landed → BytesAreCounted → (ps : System) (ls : List Layouts) (objects : List ObjectParts) (tasks : List Task) (image : ImageParts) (map : Map) (s : IsSystem ps ls objects tasks image map) → TreesAre ps → Sound ps → ((t : ModeTable) → IsTableOf ps t → IsTable t)
    → let known = s.linked.known in let w = whole_of ps ls objects known image in AllResolve w ps ls objects known.stacks known.bindings.of → PlacesAndStarts w image

-- ---- the image

-- what is left to show of each task
pub record Enters (w : Whole) (h : Home) (t : ImageTask) (root : Proc) : Type 0 where
  pub reached : w.reached root ≡ true
  pub enters : CodeAt w h t.entry (shown (Call Pc (Absolute (w.entry root))) ∷ shown (Trap 11) ∷ [])
  pub room : h.low + 2 * w.needs 0 root ≤ h.high

abbrev pub AllEnter : Whole → ImageParts → List SourceTask → Type 0
AllEnter w image ts = (i : ℕ) (t : ImageTask) (x : SourceTask) → 1 ≤ i → slice_get image.tasks (i - 1) ≡ Some t → slice_get ts (i - 1) ≡ Some x → Enters w (home_of image i) t (root_of x)

-- An accepted system is imaged, where its trees are such, its relocations resolve, its tasks match and enter their roots, and the procedures run.
abbrev pub SystemsAreImagedIf : Type 0
SystemsAreImagedIf =
    Landed → BytesAreCounted → (ps : System) (ls : List Layouts) (objects : List ObjectParts) (tasks : List Task) (image : ImageParts) (map : Map) (s : IsSystem ps ls objects tasks image map) → ModulesFit ps → TreesAre ps → Sound ps → ((t : ModeTable) → IsTableOf ps t → IsTable t)
    → let known = s.linked.known in let w = whole_of ps ls objects known image in let ts = source_tasks tasks known.roots in
    AllResolve w ps ls objects known.stacks known.bindings.of → TasksMatch ps ts → AllEnter w image ts → Linked w → Imaged w image ts
