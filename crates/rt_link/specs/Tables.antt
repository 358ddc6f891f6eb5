-- The tables of addresses that a layout is.
use Rattle.std.specs.Prelude.{◌≡◌, ◌<◌, ℕ, List, [], length, Option, Some, None, slice_get, slice_index}
use Rattle.rt_tree_nodes.specs.declared.store.Proc.{Proc}
use Rattle.rt_object.specs.declared.object.ObjectParts.{ObjectParts}
use Rattle.rt_graph.specs.Calls.{brick, numbered}
use Rattle.rt_link.specs.declared.laid.Layout.{Layout}
use Rattle.rt_link.specs.declared.tasks.TaskPlace.{TaskPlace}
use Rattle.rt_link.specs.Room.{code_end, data_end}
use Rattle.rt_link.specs.Addresses.{entry_at, block_at, stack_at, brick_address, string_address}

abbrev pub row : Option (List ℕ) → List ℕ
row None = []
row (Some addresses) = addresses

-- number k of the row of module m; 0 where there is none
abbrev pub found : List (List ℕ) → ℕ → ℕ → ℕ
found rows m k = slice_index (row (numbered rows m)) k

module _ (objects : List ObjectParts) (stacks : List Proc) where
  -- where task n lies
  abbrev pub task_place : ℕ → TaskPlace
  task_place n = record { entry = entry_at n; block = block_at objects stacks n; stack = stack_at objects stacks n }

  pub record AreTaskPlaces (places : List TaskPlace) : Type 0 where
    pub one_each : length places ≡ length stacks
    pub each : (n : ℕ) → n < length stacks → slice_get places n ≡ Some (task_place n)

  pub record IsLayout (l : Layout) : Type 0 where
    pub code : l.code_end ≡ code_end objects stacks
    pub bytes : l.data_end ≡ data_end objects stacks
    pub bricks : (m b : ℕ) → found l.bricks m b ≡ brick_address objects stacks (brick m b)
    pub strings : (m k : ℕ) → found l.strings m k ≡ string_address objects stacks m k
    pub tasks : AreTaskPlaces l.tasks
