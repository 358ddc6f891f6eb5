-- The parts of the image of a system.
use Rattle.std.specs.Prelude.{◌≡◌, ◌<◌, ℕ, zero, suc, ◌+◌, List, [], ◌∷◌, ◌++◌, length, Option, Some}
use Rattle.std.specs.List.{flat_map, AllByRecursion}
use Rattle.rt_words.specs.Bytes.{word_bytes}
use Rattle.rt_words.specs.Named.{IsNameLength}
use Rattle.rt_tree_nodes.specs.declared.store.Proc.{Proc}
use Rattle.rt_image.specs.Ranges.{IsByte}
use Rattle.rt_image.specs.declared.image.ImageParts.{ImageParts}
use Rattle.rt_image.specs.declared.image.ImageTask.{ImageTask}
use Rattle.rt_object.specs.declared.object.Brick.{Brick}
use Rattle.rt_object.specs.declared.object.Content.{Content}
use Rattle.rt_object.specs.declared.object.Content.TheVariants as content
use Rattle.rt_object.specs.declared.object.ObjectParts.{ObjectParts}
use Rattle.rt_match.specs.declared.bindings.Bound.{Bound}
use Rattle.rt_system.specs.declared.parts.Task.{Task}
use Rattle.pdp_code.specs.declared.instruction.Reg.TheVariants.{Pc}
use Rattle.pdp_code.specs.declared.instruction.Operand.TheVariants.{Absolute}
use Rattle.pdp_code.specs.declared.instruction.Instr.TheVariants.{Call, Trap}
use Rattle.rt_graph.specs.Calls.{content_of}
use Rattle.rt_templates.specs.declared.line.Line.{Line}
use Rattle.rt_templates.specs.Lines as lines
use Rattle.rt_templates.specs.Lines.{shown}
use Rattle.rt_templates.specs.Supported.{all_lines}
use Rattle.rt_link.specs.Addresses.{brick_address, entry_at}
use Rattle.rt_link.specs.Room.{held, stack_words}
use Rattle.rt_link.specs.Named.{routine_address, relocated_word}
use Rattle.rt_link.specs.Relocated.{padded, patched, patched_bytes}

-- ---- the words by which a task enters

-- a call of its root, and the end of the task
abbrev pub entering : ℕ → List Line
entering root = shown (Call Pc (Absolute root)) ∷ shown (Trap 11) ∷ []

-- ---- strings

-- its length as a word, and its bytes
abbrev pub string_data : List ℕ → List ℕ
string_data s = word_bytes (length s) ++ padded s

abbrev pub strings_data : List (List ℕ) → List ℕ
strings_data = flat_map string_data

-- ---- blocks

-- ERL, ERN, ERP, IN and OUT at the start: ERL and ERN are 0, and the others are RRGEL, RRIN and RROUT
abbrev pub start_block : List ℕ
start_block = 0 ∷ 0 ∷ 0 ∷ 0 ∷ 0 ∷ routine_address 10 ∷ routine_address 1 ∷ routine_address 2 ∷ []

abbrev pub marks_in : Option Content → List ℕ
marks_in (Some (content.Proc p)) = p.marks
marks_in _ = []

abbrev pub brick_marks : Brick → List ℕ
brick_marks b = marks_in (content_of b.kind)

abbrev pub module_marks : ObjectParts → List ℕ
module_marks o = flat_map brick_marks o.bricks

abbrev pub modules_marks : List ObjectParts → List ℕ
modules_marks = flat_map module_marks

-- the marks of the words by which so many tasks enter: a call makes one visible step, and so does the end of a task
abbrev pub entries_marks : ℕ → List ℕ
entries_marks zero = []
entries_marks (suc n) = entries_marks n ++ lines.marks (entering 0)

-- one mark for each word of the code, of so many tasks
abbrev pub image_marks : List ObjectParts → ℕ → List ℕ
image_marks objects n = lines.marks all_lines ++ (entries_marks n ++ modules_marks objects)

-- ---- where relocations stand

-- each word that becomes an address is a word of its procedure
abbrev pub HasCodeIn : Option Content → Type 0
HasCodeIn (Some (content.Proc p)) = AllByRecursion (λ r. r.place < length p.words) p.relocations
HasCodeIn _ = Unit {0}

abbrev pub HasCodeInside : Brick → Type 0
HasCodeInside b = HasCodeIn (content_of b.kind)

abbrev pub HasDataIn : Option Content → Type 0
HasDataIn (Some (content.Data d)) = AllByRecursion (λ r. r.place + 1 < length (padded d.bytes)) d.relocations
HasDataIn _ = Unit {0}

-- and each of a data brick lies in it, rounded up
abbrev pub HasDataInside : Brick → Type 0
HasDataInside b = HasDataIn (content_of b.kind)

-- the objects of a system, the stack bricks of its tasks, and to what its bricks are bound
module _ (objects : List ObjectParts) (stacks : List Proc) (of : List (List Bound)) where
  -- ---- code

  -- the code of a procedure of module m
  abbrev pub words_in : ℕ → Option Content → List ℕ
  words_in m (Some (content.Proc p)) = patched (relocated_word objects stacks of m) p.relocations p.words
  words_in m _ = []

  abbrev pub brick_words : ℕ → Brick → List ℕ
  brick_words m b = words_in m (content_of b.kind)

  -- the procedures of modules, of which the first has number m
  abbrev pub modules_words : ℕ → List ObjectParts → List ℕ
  modules_words m [] = []
  modules_words m (o ∷ os) = flat_map (brick_words m) o.bricks ++ modules_words (suc m) os

  -- ---- data

  abbrev pub data_in : ℕ → Option Content → List ℕ
  data_in m (Some (content.Data d)) = patched_bytes (relocated_word objects stacks of m) d.relocations (padded d.bytes)
  data_in m _ = []

  abbrev pub brick_data : ℕ → Brick → List ℕ
  brick_data m b = data_in m (content_of b.kind)

  -- strings, and then data bricks
  abbrev pub module_data : ℕ → ObjectParts → List ℕ
  module_data m o = strings_data o.strings ++ flat_map (brick_data m) o.bricks

  abbrev pub modules_data : ℕ → List ObjectParts → List ℕ
  modules_data m [] = []
  modules_data m (o ∷ os) = module_data m o ++ modules_data (suc m) os

  -- ---- the image of tasks with these roots

  abbrev pub root_entering : Proc → List Line
  root_entering f = entering (brick_address objects stacks f)

  abbrev pub image_code : List Proc → List ℕ
  image_code roots = lines.words all_lines ++ (flat_map (λ f. lines.words (root_entering f)) roots ++ modules_words 1 objects)

  abbrev pub image_bytes : List ℕ
  image_bytes = modules_data 1 objects

-- each of some bricks is a stack
abbrev pub AreStackBricks : List ObjectParts → List Proc → Type 0
AreStackBricks objects stacks = AllByRecursion (λ f. (n : ℕ) × (held objects f ≡ Some (content.Stack n))) stacks

-- a name of 1 to 32 bytes
abbrev pub HasName : Task → Type 0
HasName t = IsNameLength (length t.name) × AllByRecursion IsByte t.name

-- task n, with its stack brick
abbrev pub image_task : List ObjectParts → ℕ → Task → Proc → ImageTask
image_task objects n t f = record { name = t.name; priority = t.priority; entry = entry_at n; block = start_block; stack = stack_words objects f }

-- task n and those behind it, with their stack bricks
abbrev pub image_tasks : List ObjectParts → ℕ → List Task → List Proc → List ImageTask
image_tasks objects n [] fs = []
image_tasks objects n (t ∷ ts) [] = []
image_tasks objects n (t ∷ ts) (f ∷ fs) = image_task objects n t f ∷ image_tasks objects (suc n) ts fs

-- tasks with these roots and stack bricks
abbrev pub image_of : List ObjectParts → List (List Bound) → List Task → List Proc → List Proc → ImageParts
image_of objects of tasks roots stacks = record {
  code = image_code objects stacks of roots;
  marks = image_marks objects (length tasks);
  bytes = image_bytes objects stacks of;
  tasks = image_tasks objects 0 tasks stacks;
}
