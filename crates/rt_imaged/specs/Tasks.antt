-- The tasks of an accepted system are tasks of the source.
use Rattle.std.specs.Prelude.{◌≡◌, ℕ, ◌+◌, ◌-◌, ◌*◌, ◌≤◌, true, List, Some, slice_get}
use Rattle.rt_tree_nodes.specs.declared.store.Proc.{Proc}
use Rattle.rt_image.specs.declared.image.ImageTask.{ImageTask}
use Rattle.rt_meaning.specs.declared.begin.SourceTask.{SourceTask}
use Rattle.rt_link.specs.Laws.{TasksAreThoseOfTheLines}
use Rattle.rt_follows.specs.Whole.{Whole, Home}
use Rattle.rt_faithful.specs.Faithful.{home_of}
use Rattle.std.specs.List.{AllByRecursion}
use Rattle.rt_tree.specs.Stored.{System}
use Rattle.rt_object.specs.declared.object.ObjectParts.{ObjectParts}
use Rattle.rt_system.specs.declared.parts.Task.{Task}
use Rattle.rt_image.specs.declared.image.ImageParts.{ImageParts}
use Rattle.rt_image.specs.declared.map.Map.{Map}
use Rattle.rt_lower.specs.declared.layouts.Layouts.{Layouts}
use Rattle.rt_meaning.specs.Roots.{root_of}
use Rattle.rt_meaning_laws.specs.Starting.{IsRoot}
use Rattle.rt_imaged.specs.Whole.{source_tasks, whole_of, IsSystem}

-- each root is an ENT procedure of mode PROC() or PROC() INT of the trees
abbrev pub RootsAreRoots : Type 0
RootsAreRoots = (ps : System) (ls : List Layouts) (objects : List ObjectParts) (tasks : List Task) (image : ImageParts) (map : Map) (s : IsSystem ps ls objects tasks image map) → AllByRecursion (λ t. IsRoot ps (root_of t)) (source_tasks tasks s.linked.known.roots)

-- each task's root is reached, and its brick has room for all that the root needs (two of the three facts of `Enters`)
pub record HasRoom (w : Whole) (h : Home) (root : Proc) : Type 0 where
  pub reached : w.reached root ≡ true
  pub room : h.low + 2 * w.needs 0 root ≤ h.high

abbrev pub TasksHaveRoom : Type 0
TasksHaveRoom =
    TasksAreThoseOfTheLines → (ps : System) (ls : List Layouts) (objects : List ObjectParts) (tasks : List Task) (image : ImageParts) (map : Map) (s : IsSystem ps ls objects tasks image map) → (i : ℕ) (t : ImageTask) (x : SourceTask) → 1 ≤ i
    → slice_get image.tasks (i - 1) ≡ Some t → slice_get (source_tasks tasks s.linked.known.roots) (i - 1) ≡ Some x → HasRoom (whole_of ps ls objects s.linked.known image) (home_of image i) (root_of x)
