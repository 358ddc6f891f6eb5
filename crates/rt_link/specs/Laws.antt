-- Laws of systems that are linked.
use Rattle.std.specs.Prelude.{◌≡◌, ◌≤◌, ℕ, List, length, Some, slice_get}
use Rattle.rt_tree_nodes.specs.declared.store.Proc.{Proc}
use Rattle.rt_object.specs.declared.object.ObjectParts.{ObjectParts}
use Rattle.rt_match.specs.declared.bindings.Bound.{Bound}
use Rattle.rt_match.specs.Matching.{AreBound}
use Rattle.rt_match.specs.Signatures.{system_of}
use Rattle.rt_match.specs.Laws as matching
use Rattle.rt_system.specs.declared.parts.Task.{Task}
use Rattle.rt_image.specs.declared.image.ImageParts.{ImageParts}
use Rattle.rt_image.specs.declared.image.ImageTask.{ImageTask}
use Rattle.rt_image.specs.declared.map.Map.{Map}
use Rattle.rt_image.specs.declared.map.MapTask.{MapTask}
use Rattle.rt_graph.specs.declared.fault.GraphFault.{GraphFault}
use Rattle.rt_graph.specs.declared.fault.GraphFault.TheVariants as graph
use Rattle.rt_graph.specs.Needs.{HasNeed}
use Rattle.rt_graph.specs.Tasks.{IsRootNamed, IsStackNamed}
use Rattle.rt_link.specs.declared.fault.LinkFault.{LinkFault}
use Rattle.rt_link.specs.declared.fault.LinkFault.TheVariants as fault
use Rattle.rt_link.specs.declared.judged.Judged.{Judged}
use Rattle.rt_link.specs.Verdict.{IsJudged, IsFault}
use Rattle.rt_link.specs.Linked.{IsLinked}

-- ---- the tasks

-- a task of an image has the name and the priority of a TASK line, and the words of the stack that the line names
pub record IsOfLine (objects : List ObjectParts) (t : Task) (made : ImageTask) : Type 0 where
  pub name : made.name ≡ t.name
  pub priority : made.priority ≡ t.priority
  pub stack : IsStackNamed objects t.stack made.stack

-- so has a task of a map, beside the words that the root which the line names needs, no more than its stack has
pub record IsMappedAs (objects : List ObjectParts) (of : List (List Bound)) (t : Task) (made : MapTask) : Type 0 where
  pub name : made.name ≡ t.name
  pub stack : IsStackNamed objects t.stack made.words
  pub root : Proc
  pub is_root : IsRootNamed objects t.root root
  pub need : HasNeed objects of root made.need
  pub fits : made.need ≤ made.words

-- the elements of two lists are related, each to that at its place
pub record AreOneByOne {A B : Type 0} (R : A → B → Type 0) (xs : List A) (ys : List B) : Type 0 where
  pub one_each : length ys ≡ length xs
  pub each : (i : ℕ) (x : A) → slice_get xs i ≡ Some x → (y : B) × (slice_get ys i ≡ Some y) × R x y

-- the tasks of the image and of the map are those of the TASK lines, in their order
pub record HasTasksOfLines (objects : List ObjectParts) (tasks : List Task) (image : ImageParts) (map : Map) : Type 0 where
  pub in_image : AreOneByOne (IsOfLine objects) tasks image.tasks
  pub of : List (List Bound)
  pub bound : AreBound (system_of objects) of
  pub in_map : AreOneByOne (IsMappedAs objects of) tasks map.tasks

abbrev pub TasksAreThoseOfTheLines : Type 0
TasksAreThoseOfTheLines = (objects : List ObjectParts) (tasks : List Task) (image : ImageParts) (map : Map) → IsLinked objects tasks image map → HasTasksOfLines objects tasks image map

-- ---- the verdict

abbrev pub IsGraphRefusal : GraphFault → Type 0
IsGraphRefusal graph.Memory = ⊥
IsGraphRefusal _ = Unit {0}

-- a fault of the system, and no want of memory
abbrev pub IsRefusal : LinkFault → Type 0
IsRefusal fault.Memory = ⊥
IsRefusal (fault.Unmatched f) = matching.IsRefusal f
IsRefusal (fault.Refused f) = IsGraphRefusal f
IsRefusal (fault.NoRoom bytes) = Unit {0}

-- a system that passes all tests is linked to an image
abbrev pub EachIsLinked : Type 0
EachIsLinked = (objects : List ObjectParts) (tasks : List Task) (known : Judged) → IsJudged objects tasks known → (image : ImageParts) × (map : Map) × IsLinked objects tasks image map

-- a system that is linked has no fault
abbrev pub NeverBoth : Type 0
NeverBoth = (objects : List ObjectParts) (tasks : List Task) (image : ImageParts) (map : Map) (f : LinkFault) → IsLinked objects tasks image map → IsRefusal f → IsFault objects tasks f → ⊥

-- a system is linked to one image, which has one map
abbrev pub HaveOneImage : Type 0
HaveOneImage = (objects : List ObjectParts) (tasks : List Task) (image other : ImageParts) (map its : Map) → IsLinked objects tasks image map → IsLinked objects tasks other its → (image ≡ other) × (map ≡ its)
