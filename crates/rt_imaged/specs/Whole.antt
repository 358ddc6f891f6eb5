-- The `Whole` of a linked system: which function of the linker's layout and of the typed modules each of its fields is; and what has to be
-- known for its image to be `Imaged`.
use Rattle.std.specs.Prelude.{◌≡◌, ℕ, zero, suc, ◌*◌, ◌≤◌, max, List, [], ◌∷◌, length, Option, Some, None, slice_get}
use Rattle.std.specs.List.{All, list_any}
use Rattle.rt_tree_nodes.specs.declared.brick.ModuleParts.{ModuleParts}
use Rattle.rt_tree_nodes.specs.declared.store.Proc.{Proc}
use Rattle.rt_tree.specs.Stored.{System}
use Rattle.rt_system.specs.declared.parts.Task.{Task}
use Rattle.rt_image.specs.declared.image.ImageParts.{ImageParts}
use Rattle.rt_image.specs.declared.map.Map.{Map}
use Rattle.rt_image.specs.Memory.{start_memory, mark_at}
use Rattle.rt_image.specs.Ranges.{HasImageRanges}
use Rattle.rt_object.specs.declared.object.Brick.{Brick}
use Rattle.rt_object.specs.declared.object.Content.{Content}
use Rattle.rt_object.specs.declared.object.Content.TheVariants as content
use Rattle.rt_object.specs.declared.object.ObjectParts.{ObjectParts}
use Rattle.rt_object.specs.Ranges.{HasObjectRanges}
use Rattle.rt_graph.specs.Calls.{content_of}
use Rattle.rt_graph.specs.Scans.{is_same, told_need}
use Rattle.rt_meaning.specs.declared.begin.SourceTask.{SourceTask}
use Rattle.rt_link.specs.declared.judged.Judged.{Judged}
use Rattle.rt_link.specs.Addresses.{code_at}
use Rattle.rt_link.specs.Linked.{IsLinked}
use Rattle.rt_link.specs.Named.{routine_address, supplied_address}
use Rattle.rt_link.specs.Room.{held, code_end, data_end}
use Rattle.rt_lower.specs.declared.layouts.Layouts.{Layouts}
use Rattle.rt_lower.specs.Layouts.{AreLayouts}
use Rattle.rt_compile.specs.Objects.{IsObjectWith}
use Rattle.rt_places.specs.Systems.{address}
use Rattle.rt_bases.specs.Bases.{base_of}
use Rattle.rt_follows.specs.Whole.{Whole}

-- ---- procedures

-- where a compiled procedure begins; what is none counts as being at 0
abbrev pub entry_in : Option Content → ℕ → ℕ
entry_in (Some (content.Proc p)) at = at
entry_in _ at = 0

-- a supplied procedure has module 0
abbrev pub entry_by : List ObjectParts → List Proc → Proc → ℕ → ℕ
entry_by objects stacks f zero = supplied_address f.brick
entry_by objects stacks f (suc m) = entry_in (held objects f) (code_at objects stacks f)

abbrev pub entry_of : List ObjectParts → List Proc → Proc → ℕ
entry_of objects stacks f = entry_by objects stacks f f.«module»

-- what isn't reached counts as needing its return's address
abbrev pub need_in : Option ℕ → ℕ
need_in None = 1
need_in (Some n) = max n 1

-- how many items the greatest procedure has
abbrev pub items_in : Option Content → ℕ
items_in (Some (content.Proc p)) = p.items
items_in _ = 0

abbrev pub brick_items : Brick → ℕ
brick_items b = items_in (content_of b.kind)

abbrev pub most_of : {A : Type 0} → (A → ℕ) → List A → ℕ
most_of f [] = 0
most_of f (x ∷ xs) = max (f x) (most_of f xs)

abbrev pub most_items : List ObjectParts → ℕ
most_items objects = most_of (λ o. most_of brick_items o.bricks) objects

-- the sizes of the records of each module, by its layouts
abbrev pub sizes_by : Option Layouts → ℕ → Option ℕ
sizes_by None k = None
sizes_by (Some l) k = slice_get l.sizes k

abbrev pub layouts_at : List Layouts → ℕ → Option Layouts
layouts_at ls zero = None
layouts_at ls (suc m) = slice_get ls m

abbrev pub sizes_of : List Layouts → ℕ → ℕ → Option ℕ
sizes_of ls m = sizes_by (layouts_at ls m)

-- ---- the whole

-- modules with their layouts and objects, what is known of the system that is linked, and its image
abbrev pub whole_of : System → List Layouts → List ObjectParts → Judged → ImageParts → Whole
whole_of ps ls objects known image = record {
  ps = ps;
  base = base_of objects known.stacks;
  address = address ps (sizes_of ls) (base_of objects known.stacks);
  entry = entry_of objects known.stacks;
  support = routine_address;
  code = start_memory image;
  code_end = code_end objects known.stacks;
  data_end = data_end objects known.stacks;
  marks = mark_at image;
  reached = λ f. list_any (is_same f) known.order.procs;
  needs = λ live f. need_in (told_need known.order.procs known.needs f);
  bound = max 144 (24 * most_items objects);
}

-- ---- the tasks

abbrev pub source_task : Task → Proc → SourceTask
source_task t f = record { root = (f.«module», f.brick); priority = t.priority }

-- a task of the source for each TASK line and its root
abbrev pub source_tasks : List Task → List Proc → List SourceTask
source_tasks [] fs = []
source_tasks (t ∷ ts) [] = []
source_tasks (t ∷ ts) (f ∷ fs) = source_task t f ∷ source_tasks ts fs

-- ---- what has to be known

-- an object is that of a tree, by these layouts
pub record IsObjectBy (p : ModuleParts) (l : Layouts) (o : ObjectParts) : Type 0 where
  pub right : AreLayouts p l
  pub object : IsObjectWith l p o

-- The system is linked; its objects are those of the modules, which fit; and the image is in its ranges.
pub record IsSystem (ps : System) (ls : List Layouts) (objects : List ObjectParts) (tasks : List Task) (image : ImageParts) (map : Map) : Type 0 where
  pub linked : IsLinked objects tasks image map
  pub layouts : length ls ≡ length ps
  pub same : length objects ≡ length ps
  pub trees : (i : ℕ) (p : ModuleParts) (l : Layouts) (o : ObjectParts) → slice_get ps i ≡ Some p → slice_get ls i ≡ Some l → slice_get objects i ≡ Some o → IsObjectBy p l o
  pub object_ranges : All HasObjectRanges objects
  pub image_ranges : HasImageRanges image
  pub few : length objects ≤ 64
