-- The parts of a system in the order in which they lie, and that they fill the room just so.
use Rattle.std.specs.Prelude.{◌≡◌, ◌≤◌, ℕ, ◌+◌, ◌*◌, ◌%◌, List, [], ◌∷◌, ◌++◌, length, map, Option, Some, None, slice_get}
use Rattle.std.specs.List.{All, flat_map, range_with_len}
use Rattle.rt_tree_nodes.specs.declared.store.Proc.{Proc}
use Rattle.rt_object.specs.declared.object.ObjectParts.{ObjectParts}
use Rattle.rt_graph.specs.Calls.{brick}
use Rattle.rt_link.specs.Room.{bricks_of, strings_of, held, code_in, data_in, stack_words, string_bytes, support_bytes, entry_bytes, block_bytes, room}
use Rattle.rt_link.specs.Addresses.{entry_at, code_at, string_at, data_at, block_at, stack_at}

-- a part of a system: modules count from 1, all else from 0
pub data Part : Type 0 where
  -- the support code
  Support : Part
  -- the words by which a task enters
  Entry : ℕ → Part
  -- the code of a brick of a module
  Code : ℕ → ℕ → Part
  -- a string of a module
  String : ℕ → ℕ → Part
  -- the bytes of a data brick of a module
  Bytes : ℕ → ℕ → Part
  -- the block and the stack brick of a task
  Block : ℕ → Part
  Stack : ℕ → Part

abbrev pub string_in : Option (List ℕ) → ℕ
string_in None = 0
string_in (Some s) = string_bytes s

abbrev pub words_at : List ObjectParts → Option Proc → ℕ
words_at objects None = 0
words_at objects (Some f) = stack_words objects f

-- 0, 1, and so on
abbrev pub first_numbers : {A : Type 0} → List A → List ℕ
first_numbers xs = range_with_len 0 (length xs)

-- 1, 2, and so on
abbrev pub module_numbers : List ObjectParts → List ℕ
module_numbers objects = range_with_len 1 (length objects)

module _ (objects : List ObjectParts) where
  abbrev pub codes_of : ℕ → List Part
  codes_of m = map (Code m) (first_numbers (bricks_of objects m))

  abbrev pub data_of : ℕ → List Part
  data_of m = map (String m) (first_numbers (strings_of objects m)) ++ map (Bytes m) (first_numbers (bricks_of objects m))

abbrev pub task_parts : ℕ → List Part
task_parts n = Block n ∷ Stack n ∷ []

module _ (objects : List ObjectParts) (stacks : List Proc) where
  abbrev pub parts : List Part
  parts =
      Support ∷ (map Entry (first_numbers stacks)
      ++ (flat_map (codes_of objects) (module_numbers objects)
      ++ (flat_map (data_of objects) (module_numbers objects)
      ++ flat_map task_parts (first_numbers stacks))))

  abbrev pub address : Part → ℕ
  address Support = 0
  address (Entry n) = entry_at n
  address (Code m b) = code_at objects stacks (brick m b)
  address (String m k) = string_at objects stacks m k
  address (Bytes m b) = data_at objects stacks (brick m b)
  address (Block n) = block_at objects stacks n
  address (Stack n) = stack_at objects stacks n

  -- how many bytes it takes
  abbrev pub size : Part → ℕ
  size Support = support_bytes
  size (Entry n) = entry_bytes
  size (Code m b) = code_in (held objects (brick m b))
  size (String m k) = string_in (slice_get (strings_of objects m) k)
  size (Bytes m b) = data_in (held objects (brick m b))
  size (Block n) = block_bytes
  size (Stack n) = 2 * words_at objects (slice_get stacks n)

  -- each of some parts begins where the one before it ends, the first at an address, and the last ends at another
  abbrev pub Lie : List Part → ℕ → ℕ → Type 0
  Lie [] from to = from ≡ to
  Lie (p ∷ ps) from to = (address p ≡ from) × Lie ps (from + size p) to

  pub record FillRoom : Type 0 where
    pub order : Lie parts 0 (room objects stacks)
    pub even : All (λ p. address p % 2 ≡ 0) parts
    pub inside : All (λ p. address p + size p ≤ room objects stacks) parts
