-- What the bytes of a data brick keep.
use Rattle.std.specs.Prelude.{◌≡◌, ℕ, ◌*◌, ◌<◌, true, List, length, map, Some, slice_get}
use Rattle.std.specs.List.{AllByRecursion}
use Rattle.rt_modes.specs.declared.mode.Field.{Field}
use Rattle.rt_sizes.specs.Sizes.{End, even}
use Rattle.rt_tree_nodes.specs.declared.brick.Brick.{Brick}
use Rattle.rt_tree_nodes.specs.declared.brick.BrickSort.TheVariants as sort
use Rattle.rt_tree_nodes.specs.declared.brick.DataStart.{DataStart}
use Rattle.rt_tree_nodes.specs.declared.brick.ModuleParts.{ModuleParts}
use Rattle.rt_tree_nodes.specs.Scopes.{Scope, scope_of}
use Rattle.rt_tree.specs.Modules.{is_here, every_node_fits}
use Rattle.rt_object.specs.declared.object.Relocation.{Relocation}
use Rattle.rt_object.specs.Ranges.{Rise, IsNamed}
use Rattle.rt_lower.specs.declared.layouts.Layouts.{Layouts}
use Rattle.rt_lower.specs.Layouts.{table_of}
use Rattle.rt_compile.specs.declared.data.written.Data.{Data}
use Rattle.rt_compile.specs.Data.{data_of}

-- ---- relocations

abbrev pub places : List Relocation → List ℕ
places = map (λ r. r.place)

-- an even place before n
abbrev pub IsInside : ℕ → Relocation → Type 0
IsInside n r = (r.place < n) × ((k : ℕ) × (r.place ≡ 2 * k))

-- places rise, are even, and lie in the bytes
pub record AreWithin (d : Data) : Type 0 where
  pub rise : Rise (places d.relocations)
  pub inside : AllByRecursion (IsInside (length d.bytes)) d.relocations

abbrev pub PlacesAreWithin : Type 0
PlacesAreWithin = (l : Layouts) (c : Scope) (fs : List Field) (ss : List DataStart) → AreWithin (data_of l c fs ss)

-- ---- the data of modules of which every node fits

-- the items and the starts of an own or ENT data brick
pub record IsDataBrick (p : ModuleParts) (fs : List Field) (ss : List DataStart) : Type 0 where
  pub number : ℕ
  pub brick : Brick
  pub there : slice_get p.bricks number ≡ Some brick
  pub here : is_here brick.kind ≡ true
  pub sort_is : brick.sort ≡ sort.Data fs ss

-- each brick and string that is named is one of the module
abbrev pub PlacesAreNamed : Type 0
PlacesAreNamed = (l : Layouts) (p : ModuleParts) (fs : List Field) (ss : List DataStart) → every_node_fits p ≡ true → IsDataBrick p fs ss → AllByRecursion (λ r. IsNamed (length p.strings) (length p.bricks) r.of) (data_of l (scope_of p) fs ss).relocations

-- there are as many bytes as the items have, rounded up to an even number
abbrev pub BytesAreCounted : Type 0
BytesAreCounted = (l : Layouts) (p : ModuleParts) (fs : List Field) (ss : List DataStart) (n : ℕ) → every_node_fits p ≡ true → IsDataBrick p fs ss → End (table_of p.modes.records) fs n → length (data_of l (scope_of p) fs ss).bytes ≡ even n
