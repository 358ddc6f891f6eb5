-- What is linked of objects of trees is a system; and how far code goes there without a visible step.
use Rattle.std.specs.Prelude.{◌≡◌, ℕ, ◌*◌, ◌≤◌, true, List, length, Some, slice_get}
use Rattle.std.specs.List.{All}
use Rattle.rt_modes.specs.declared.mode.Mode.{Mode}
use Rattle.rt_tree_nodes.specs.declared.brick.Brick.{Brick}
use Rattle.rt_tree_nodes.specs.declared.brick.BrickSort.TheVariants as sort
use Rattle.rt_tree_nodes.specs.declared.brick.ModuleParts.{ModuleParts}
use Rattle.rt_tree_nodes.specs.declared.brick.ProcBody.{ProcBody}
use Rattle.rt_tree.specs.Modules.{is_here}
use Rattle.rt_tree.specs.Stored.{System, HasBrick}
use Rattle.rt_system.specs.declared.parts.Task.{Task}
use Rattle.rt_image.specs.declared.image.ImageParts.{ImageParts}
use Rattle.rt_image.specs.declared.map.Map.{Map}
use Rattle.rt_image.specs.Ranges.{HasImageRanges}
use Rattle.rt_object.specs.declared.object.ObjectParts.{ObjectParts}
use Rattle.rt_object.specs.Ranges.{HasObjectRanges}
use Rattle.rt_compile.specs.Objects.{IsObjectOf}
use Rattle.rt_link.specs.Laws.{TasksAreThoseOfTheLines}
use Rattle.rt_link.specs.Linked.{IsLinked}
use Rattle.rt_lower.specs.declared.layouts.Layouts.{Layouts}
use Rattle.rt_imaged.specs.Whole.{whole_of, IsSystem}

-- each object is that of the tree at its place, and there are as many
pub record AreObjectsOf (ps : System) (objects : List ObjectParts) : Type 0 where
  pub same : length objects ≡ length ps
  pub each : (i : ℕ) (p : ModuleParts) (o : ObjectParts) → slice_get ps i ≡ Some p → slice_get objects i ≡ Some o → IsObjectOf p o

-- What is linked of objects of trees, in ranges, is a system of these trees, by some layouts.
abbrev pub ObjectsMakeSystems : Type 0
ObjectsMakeSystems =
    (ps : System) (objects : List ObjectParts) (tasks : List Task) (image : ImageParts) (map : Map) → AreObjectsOf ps objects → All HasObjectRanges objects → length objects ≤ 64 → (linked : IsLinked objects tasks image map) → HasImageRanges image
    → (ls : List Layouts) × (s : IsSystem ps ls objects tasks image map) × (s.linked ≡ linked)

-- no own or ENT procedure of the modules has more items
abbrev pub HaveAtMost : System → ℕ → Type 0
HaveAtMost ps n = (m b : ℕ) (p : ModuleParts) (d : Brick) (mode : Mode) (body : ProcBody) → HasBrick ps m b p d → is_here d.kind ≡ true → d.sort ≡ sort.Proc mode (Some body) → body.items ≤ n

-- Where procedures have at most so many items, which are 6 or more, code makes no more than 24 unmarked instructions for each.
abbrev pub BoundsAreSmall : Type 0
BoundsAreSmall =
    (ps : System) (ls : List Layouts) (objects : List ObjectParts) (tasks : List Task) (image : ImageParts) (map : Map) (s : IsSystem ps ls objects tasks image map) (n : ℕ) → HaveAtMost ps n → 6 ≤ n
    → (whole_of ps ls objects s.linked.known image).bound ≤ 24 * n

-- an own or ENT procedure of the modules
pub record HasProcedure (ps : System) : Type 0 where
  pub home : ℕ
  pub number : ℕ
  pub parts : ModuleParts
  pub its : Brick
  pub mode : Mode
  pub body : ProcBody
  pub has : HasBrick ps home number parts its
  pub here : is_here its.kind ≡ true
  pub sort_is : its.sort ≡ sort.Proc mode (Some body)

-- An accepted system has a procedure: the root of its first task.
abbrev pub SystemsHaveProcedures : Type 0
SystemsHaveProcedures =
    TasksAreThoseOfTheLines → (ps : System) (ls : List Layouts) (objects : List ObjectParts) (tasks : List Task) (image : ImageParts) (map : Map) → IsSystem ps ls objects tasks image map → HasProcedure ps
