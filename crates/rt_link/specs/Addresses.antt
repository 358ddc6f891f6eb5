-- Where the parts of a system lie: the support code from 0, the words by which tasks enter, all procedures by module and brick; by
-- module its strings and then its data bricks; by task its block and its stack brick.
use Rattle.std.specs.Prelude.{ℕ, zero, suc, ◌+◌, ◌*◌, nat_lt, if◌then◌else◌, List, length, take, Option, Some, None, slice_get}
use Rattle.std.specs.List.{sum_by, position_or_len}
use Rattle.rt_tree_nodes.specs.declared.store.Proc.{Proc}
use Rattle.rt_object.specs.declared.object.Content.{Content}
use Rattle.rt_object.specs.declared.object.Content.TheVariants as content
use Rattle.rt_object.specs.declared.object.ObjectParts.{ObjectParts}
use Rattle.rt_graph.specs.Scans.{is_same}
use Rattle.rt_link.specs.Room.{bricks_of, strings_of, held, code_bytes, data_bytes, string_bytes, module_code, module_bytes, support_bytes, entry_bytes, block_bytes, task_bytes, code_start, code_end, data_end}

-- where the k-th of some parts stands, counted from 0, which lie one after another from an address on
abbrev pub nth_at : {A : Type 0} → (A → ℕ) → List A → ℕ → ℕ → ℕ
nth_at size xs first k = first + sum_by size (take k xs)

-- what counts as the address of a brick: that of a procedure, of a data brick, or of a stack brick; of other bricks 0
abbrev pub address_by : Option Content → ℕ → ℕ → ℕ → ℕ
address_by (Some (content.Proc p)) code data_place stack = code
address_by (Some (content.Data d)) code data_place stack = data_place
address_by (Some (content.Stack n)) code data_place stack = stack
address_by None code data_place stack = 0

-- what isn't there counts as being at 0
abbrev pub if_there : {A : Type 0} → Option A → ℕ → ℕ
if_there None a = 0
if_there (Some x) a = a

-- the words by which task n enters, counted from 0
abbrev pub entry_at : ℕ → ℕ
entry_at n = support_bytes + entry_bytes * n

module _ (objects : List ObjectParts) (stacks : List Proc) where
  -- where the code of module m begins, and where its strings do; modules count from 1
  abbrev pub module_code_at : ℕ → ℕ
  module_code_at zero = 0
  module_code_at (suc i) = nth_at module_code objects (code_start objects stacks) i

  abbrev pub module_bytes_at : ℕ → ℕ
  module_bytes_at zero = 0
  module_bytes_at (suc i) = nth_at module_bytes objects (code_end objects stacks) i

  -- where its data bricks begin
  abbrev pub module_data_at : ℕ → ℕ
  module_data_at m = module_bytes_at m + sum_by string_bytes (strings_of objects m)

  abbrev pub code_at : Proc → ℕ
  code_at f = nth_at code_bytes (bricks_of objects f.«module») (module_code_at f.«module») f.brick

  abbrev pub string_at : ℕ → ℕ → ℕ
  string_at m k = nth_at string_bytes (strings_of objects m) (module_bytes_at m) k

  abbrev pub data_at : Proc → ℕ
  data_at f = nth_at data_bytes (bricks_of objects f.«module») (module_data_at f.«module») f.brick

  -- the block and the stack brick of task n, counted from 0
  abbrev pub block_at : ℕ → ℕ
  block_at n = nth_at (task_bytes objects) stacks (data_end objects stacks) n

  abbrev pub stack_at : ℕ → ℕ
  stack_at n = block_at n + block_bytes

  -- ---- the addresses of what is named

  -- the first task whose stack brick it is
  abbrev pub task_of : Proc → ℕ
  task_of f = position_or_len (is_same f) stacks

  abbrev pub stack_address : Proc → ℕ
  stack_address f = if nat_lt (task_of f) (length stacks) then stack_at (task_of f) else 0

  -- of an own or ENT procedure, an own or ENT data brick, and the stack brick of a task; other bricks have none, which counts as 0
  abbrev pub brick_address : Proc → ℕ
  brick_address f = address_by (held objects f) (code_at f) (data_at f) (stack_address f)

  -- of string k of module m, which is its length word
  abbrev pub string_address : ℕ → ℕ → ℕ
  string_address m k = if_there (slice_get (strings_of objects m) k) (string_at m k)
