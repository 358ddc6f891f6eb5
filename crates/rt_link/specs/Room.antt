-- How many bytes of the memory the parts of a system take. Each part takes an even number of them.
use Rattle.std.specs.Prelude.{ℕ, ◌+◌, ◌*◌, List, [], length, Option, Some, None, slice_get}
use Rattle.std.specs.List.{sum_by}
use Rattle.rt_tree_nodes.specs.declared.store.Proc.{Proc}
use Rattle.rt_sizes.specs.Sizes.{even}
use Rattle.rt_object.specs.declared.object.Brick.{Brick}
use Rattle.rt_object.specs.declared.object.Content.{Content}
use Rattle.rt_object.specs.declared.object.Content.TheVariants as content
use Rattle.rt_object.specs.declared.object.ObjectParts.{ObjectParts}
use Rattle.rt_graph.specs.Calls.{numbered, content_of, content_at}
use Rattle.rt_templates.specs.Lines.{words}
use Rattle.rt_templates.specs.Supported.{all_lines}

-- ---- what is there

-- the bricks and the strings of a module; none where there is no module
abbrev pub bricks_in : Option ObjectParts → List Brick
bricks_in None = []
bricks_in (Some o) = o.bricks

abbrev pub strings_in : Option ObjectParts → List (List ℕ)
strings_in None = []
strings_in (Some o) = o.strings

module _ (objects : List ObjectParts) where
  abbrev pub bricks_of : ℕ → List Brick
  bricks_of m = bricks_in (numbered objects m)

  abbrev pub strings_of : ℕ → List (List ℕ)
  strings_of m = strings_in (numbered objects m)

  -- what a brick holds, where it is an own or ENT one
  abbrev pub held : Proc → Option Content
  held f = content_at (slice_get (bricks_of f.«module») f.brick)

-- ---- bricks and strings

-- the code of a procedure
abbrev pub code_in : Option Content → ℕ
code_in (Some (content.Proc p)) = 2 * length p.words
code_in _ = 0

-- the bytes of a data brick
abbrev pub data_in : Option Content → ℕ
data_in (Some (content.Data d)) = even (length d.bytes)
data_in _ = 0

-- the words of a stack brick
abbrev pub stack_in : Option Content → ℕ
stack_in (Some (content.Stack n)) = n
stack_in _ = 0

abbrev pub code_bytes : Brick → ℕ
code_bytes b = code_in (content_of b.kind)

abbrev pub data_bytes : Brick → ℕ
data_bytes b = data_in (content_of b.kind)

-- a string is its length word, and its bytes
abbrev pub string_bytes : List ℕ → ℕ
string_bytes s = 2 + even (length s)

-- ---- modules

abbrev pub module_code : ObjectParts → ℕ
module_code o = sum_by code_bytes o.bricks

abbrev pub module_strings : ObjectParts → ℕ
module_strings o = sum_by string_bytes o.strings

abbrev pub module_data : ObjectParts → ℕ
module_data o = sum_by data_bytes o.bricks

-- strings and data bricks
abbrev pub module_bytes : ObjectParts → ℕ
module_bytes o = module_strings o + module_data o

-- ---- the system

-- the support code
unfoldable pub support_bytes : ℕ
support_bytes = 2 * length (words all_lines)

-- the words by which a task enters its root: a call, and the end of the task
abbrev pub entry_bytes : ℕ
entry_bytes = 6

abbrev pub block_bytes : ℕ
block_bytes = 16

module _ (objects : List ObjectParts) where
  -- how many words a stack brick has; another brick has none
  abbrev pub stack_words : Proc → ℕ
  stack_words f = stack_in (held objects f)

  -- what a task takes behind the data, by its stack brick: its block and that brick
  abbrev pub task_bytes : Proc → ℕ
  task_bytes f = block_bytes + 2 * stack_words f

-- the objects of a system, and the stack brick of each of its tasks
module _ (objects : List ObjectParts) (stacks : List Proc) where
  -- where the procedures begin: behind the support code and the words by which tasks enter
  abbrev pub code_start : ℕ
  code_start = support_bytes + entry_bytes * length stacks

  abbrev pub code_end : ℕ
  code_end = code_start + sum_by module_code objects

  abbrev pub data_end : ℕ
  data_end = code_end + sum_by module_bytes objects

  -- how many bytes all parts take
  abbrev pub room : ℕ
  room = data_end + sum_by (task_bytes objects) stacks
