-- That the image of an accepted system has what an image needs to be faithful.
use Rattle.std.specs.Prelude.{◌≡◌, ◌*◌, ◌≤◌, ℕ, max, List, [], ◌∷◌, length, Some}
use Rattle.rt_tree_nodes.specs.declared.brick.Brick.{Brick}
use Rattle.rt_tree_nodes.specs.declared.brick.BrickSort.{BrickSort}
use Rattle.rt_tree_nodes.specs.declared.brick.BrickSort.TheVariants as sort
use Rattle.rt_tree_nodes.specs.declared.brick.ModuleParts.{ModuleParts}
use Rattle.rt_tree_nodes.specs.declared.store.Proc.{Proc}
use Rattle.rt_check.specs.Texts.{IsTree}
use Rattle.rt_compile.specs.Objects.{IsObjectOf}
use Rattle.rt_object.specs.declared.object.ObjectParts.{ObjectParts}
use Rattle.rt_object.specs.Ranges.{HasObjectRanges}
use Rattle.rt_image.specs.declared.image.ImageParts.{ImageParts}
use Rattle.rt_image.specs.declared.map.Map.{Map}
use Rattle.rt_image.specs.Grammar.{IsImage}
use Rattle.rt_system.specs.declared.parts.Task.{Task}
use Rattle.rt_system.specs.declared.parts.SystemParts.{SystemParts}
use Rattle.rt_system.specs.SystemRanges.{HasSystemRanges}
use Rattle.rt_graph.specs.Tasks.{IsRootNamed}
use Rattle.rt_link.specs.declared.judged.Judged.{Judged}
use Rattle.rt_link.specs.Verdict.{IsJudged}
use Rattle.rt_link.specs.Linked.{IsLinked}
use Rattle.rt_meaning.specs.declared.begin.SourceTask.{SourceTask}
use Rattle.rt_meaning.specs.Roots.{root_of}
use Rattle.rt_follows.specs.Whole.{Whole}
use Rattle.rt_faithful.specs.Imaged.{Imaged}

-- ---- tasks

-- a task of the source meaning is that of a TASK line: its root is the procedure that the line names, and its priority is the line's
pub record IsTaskOf (objects : List ObjectParts) (t : Task) (x : SourceTask) : Type 0 where
  pub root : IsRootNamed objects t.root (root_of x)
  pub priority : x.priority ≡ t.priority

-- so are all, one by one
abbrev pub AreTasksOf : List ObjectParts → List Task → List SourceTask → Type 0
AreTasksOf objects [] [] = Unit {0}
AreTasksOf objects (t ∷ ts) (x ∷ xs) = IsTaskOf objects t x × AreTasksOf objects ts xs
AreTasksOf objects _ _ = ⊥

-- the task of a line with this root
abbrev pub task_of : Task → Proc → SourceTask
task_of t f = record { root = (f.«module», f.brick); priority = t.priority }

abbrev pub tasks_of : List Task → List Proc → List SourceTask
tasks_of [] fs = []
tasks_of (t ∷ ts) [] = []
tasks_of (t ∷ ts) (f ∷ fs) = task_of t f ∷ tasks_of ts fs

-- The tasks of a system that passes all tests of the verdict are those of the roots that the verdict has found.
abbrev pub TasksAreThose : Type 0
TasksAreThose = (objects : List ObjectParts) (tasks : List Task) (known : Judged) (xs : List SourceTask) → IsJudged objects tasks known → AreTasksOf objects tasks xs → xs ≡ tasks_of tasks known.roots

-- ---- the longest procedure

-- the items of a procedure, from PROC to ENDPROC
abbrev pub items_in : BrickSort → ℕ
items_in (sort.Proc m (Some b)) = b.items
items_in _ = 0

abbrev pub longest_in : List Brick → ℕ
longest_in [] = 0
longest_in (b ∷ bs) = max (items_in b.sort) (longest_in bs)

-- the items of the longest procedure of a system
abbrev pub longest : List ModuleParts → ℕ
longest [] = 0
longest (t ∷ ts) = max (longest_in t.bricks) (longest ts)

-- ---- linked images

-- a typed tree of some text, and its object
pub record IsCompiled (tree : ModuleParts) (o : ObjectParts) : Type 0 where
  pub text : List ℕ
  pub is_tree : IsTree text tree
  pub object : IsObjectOf tree o
  pub ranges : HasObjectRanges o

-- so are all, one by one
abbrev pub AreCompiled : List ModuleParts → List ObjectParts → Type 0
AreCompiled [] [] = Unit {0}
AreCompiled (t ∷ ts) (o ∷ os) = IsCompiled t o × AreCompiled ts os
AreCompiled _ _ = ⊥

-- an image that was linked of such objects
pub record IsLinkedOf (trees : List ModuleParts) (s : SystemParts) (tasks : List SourceTask) (image : ImageParts) : Type 0 where
  pub objects : List ObjectParts
  pub compiled : AreCompiled trees objects
  pub ranges : HasSystemRanges s
  pub few : length objects ≤ 64
  pub its_map : Map
  pub linked : IsLinked objects s.tasks image its_map
  pub bytes : List ℕ
  pub spelled : IsImage bytes image
  pub tasks_are : AreTasksOf objects s.tasks tasks

-- some decision where everything lies, for these modules, and with the bound of unmarked instructions, under which the image is that of it
pub record IsImagedSomehow (trees : List ModuleParts) (tasks : List SourceTask) (image : ImageParts) : Type 0 where
  pub whole : Whole
  pub modules : whole.ps ≡ trees
  pub bound : whole.bound ≤ 24 * longest trees
  pub imaged : Imaged whole image tasks

-- Linked images are imaged.
abbrev pub LinkedImagesAreImaged : Type 0
LinkedImagesAreImaged = (trees : List ModuleParts) (s : SystemParts) (tasks : List SourceTask) (image : ImageParts) → IsLinkedOf trees s tasks image → IsImagedSomehow trees tasks image
