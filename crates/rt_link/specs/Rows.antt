-- The addresses of a module, one for each of its strings or bricks.
use Rattle.std.specs.Prelude.{◌≡◌, ◌+◌, ◌<◌, ℕ, suc, List, length, Some, slice_get}
use Rattle.rt_tree_nodes.specs.declared.store.Proc.{Proc}
use Rattle.rt_object.specs.declared.object.Brick.{Brick}
use Rattle.rt_object.specs.declared.object.ObjectParts.{ObjectParts}
use Rattle.rt_graph.specs.Calls.{brick, content_at}
use Rattle.rt_link.specs.Room.{code_bytes, data_bytes, string_bytes, module_code, module_strings, module_bytes}
use Rattle.rt_link.specs.Addresses.{nth_at, address_by, stack_address}

-- strings that lie one after another from an address on
pub record IsStringRow (strings : List (List ℕ)) (first : ℕ) (row : List ℕ) : Type 0 where
  pub one_each : length row ≡ length strings
  pub each : (k : ℕ) → k < length strings → slice_get row k ≡ Some (nth_at string_bytes strings first k)

-- one row for each module
pub record AreRows (objects : List ObjectParts) (IsRow : ℕ → ObjectParts → List ℕ → Type 0) (rows : List (List ℕ)) : Type 0 where
  pub one_each : length rows ≡ length objects
  pub each : (i : ℕ) (o : ObjectParts) (row : List ℕ) → slice_get objects i ≡ Some o → slice_get rows i ≡ Some row → IsRow i o row

-- the strings of modules whose bytes begin at an address
abbrev pub AreStringRows : List ObjectParts → ℕ → List (List ℕ) → Type 0
AreStringRows objects start = AreRows objects (λ i o. IsStringRow o.strings (nth_at module_bytes objects start i))

module _ (objects : List ObjectParts) (stacks : List Proc) where
  -- the bricks of module m, whose code begins at one address and whose data bricks at another
  pub record IsBrickRow (m : ℕ) (bricks : List Brick) (code bytes : ℕ) (row : List ℕ) : Type 0 where
    pub one_each : length row ≡ length bricks
    pub each : (b : ℕ) → b < length bricks →
        slice_get row b ≡ Some (address_by (content_at (slice_get bricks b)) (nth_at code_bytes bricks code b) (nth_at data_bytes bricks bytes b) (stack_address objects stacks (brick m b)))

  abbrev pub AreBrickRows : ℕ → ℕ → List (List ℕ) → Type 0
  AreBrickRows code bytes = AreRows objects (λ i o. IsBrickRow (suc i) o.bricks (nth_at module_code objects code i) (nth_at module_bytes objects bytes i + module_strings o))
