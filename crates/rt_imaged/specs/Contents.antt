-- The bytes of the objects of a system show with what its modules begin.
use Rattle.std.specs.Prelude.{◌≡◌, ℕ, ◌≤◌, List, map, length, Option, Some, slice_get}
use Rattle.std.specs.List.{AllByRecursion}
use Rattle.rt_tree_nodes.specs.declared.store.Datum.{Datum}
use Rattle.rt_tree_nodes.specs.declared.store.Proc.{Proc}
use Rattle.rt_tree.specs.Stored.{System}
use Rattle.rt_sizes.specs.Sizes.{even}
use Rattle.rt_image.specs.Ranges.{IsByte}
use Rattle.rt_resolve.specs.Starting.{home_of, starts, parts}
use Rattle.rt_object.specs.declared.object.Brick.{Brick}
use Rattle.rt_object.specs.declared.object.ObjectParts.{ObjectParts}
use Rattle.rt_match.specs.declared.bindings.Bound.{Bound}
use Rattle.rt_graph.specs.Calls.{numbered}
use Rattle.rt_link.specs.Imaged.{brick_data}
use Rattle.rt_places.specs.Systems.{IsBrick, IsText}
use Rattle.rt_started.specs.Started.{ShowItems}

module _ (value : Datum → ℕ) (ps : System) (S : ℕ → ℕ → Option ℕ) (objects : List ObjectParts) (stacks : List Proc) (of : List (List Bound)) where
  -- an object has the brick, and its bytes in the image show the starts of its items (rt_started, DataShowStarts)
  pub record BrickShows (m b n : ℕ) (h : IsBrick ps S m b n) : Type 0 where
    pub object : ObjectParts
    pub its : Brick
    pub is : numbered objects m ≡ Some object
    pub at : slice_get object.bricks b ≡ Some its
    pub shows : ShowItems value h.parts.modes.records (S m) (brick_data objects stacks of m its) h.fields (parts (map (starts (home_of ps m h.parts)) h.starts) h.fields) (even n)
    pub filled : length (parts (map (starts (home_of ps m h.parts)) h.starts) h.fields) ≡ length h.fields

  -- an object has the string
  pub record TextShows (m k n : ℕ) (h : IsText ps S m k n) : Type 0 where
    pub object : ObjectParts
    pub is : numbered objects m ≡ Some object
    pub at : slice_get object.strings k ≡ Some h.text
    pub bytes : AllByRecursion IsByte h.text
    pub short : length h.text ≤ 8191

  pub record ObjectsShow : Type 0 where
    pub bricks : (m b n : ℕ) (h : IsBrick ps S m b n) → BrickShows m b n h
    pub texts : (m k n : ℕ) (h : IsText ps S m k n) → TextShows m k n h
