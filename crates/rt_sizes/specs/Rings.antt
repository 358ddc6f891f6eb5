-- The records that contain themselves, the first of them, and the graph in which that is seen.
use Rattle.std.specs.Prelude.{◌≡◌, ℕ, ◌<◌, ◌↔◌, Bool, true, List, map, filter_map, Option, Some, None, slice_get}
use Rattle.rt_digraph.specs.declared.sorting.Sorted.{Sorted}
use Rattle.rt_digraph.specs.declared.sorting.Sorted.TheVariants as sorted
use Rattle.rt_modes.specs.declared.mode.Field.{Field}
use Rattle.rt_modes.specs.declared.mode.RecordDef.{RecordDef}
use Rattle.rt_sizes.specs.Containing.{held, Contains}

-- the first record that contains itself, or that none does
abbrev pub IsFirstRing : List RecordDef → Option ℕ → Type 0
IsFirstRing records (Some k) = Contains records k k × ((j : ℕ) → j < k → Contains records j j → ⊥)
IsFirstRing records None = (j : ℕ) → Contains records j j → ⊥

-- the marked records are those that contain themselves
abbrev pub AreRings : List RecordDef → List Bool → Type 0
AreRings records marks = (k : ℕ) → (slice_get marks k ≡ Some true ↔ Contains records k k)

-- the records that fields hold
abbrev pub held_in : List Field → List ℕ
held_in fs = filter_map (λ (f : Field). held f.mode) fs

abbrev pub held_by : RecordDef → List ℕ
held_by r = held_in r.fields

-- the graph of records: an edge leads from each to those that its fields hold
abbrev pub graph_of : List RecordDef → List (List ℕ)
graph_of records = map held_by records

-- the node with which a cycle begins, where one was found
abbrev pub begun_by : Sorted → Option ℕ
begun_by (sorted.Order ns) = None
begun_by (sorted.Cycle ns) = slice_get ns 0
