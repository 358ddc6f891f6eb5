-- The laws of reads after writes.
use Rattle.std.specs.Prelude.{◌≡◌, ◌≢◌, ◌↔◌, true, List, Some, slice_get}
use Rattle.rt_tree_nodes.specs.declared.store.Contents.{Contents, out-Contents}
use Rattle.rt_tree_nodes.specs.declared.store.Contents.TheOpen.{Contents-F}
use Rattle.rt_tree_nodes.specs.declared.store.Datum.{Datum}
use Rattle.rt_tree_nodes.specs.declared.store.Location.{Location}
use Rattle.rt_tree_nodes.specs.declared.store.Location.TheVariants.{Shared, Own}
use Rattle.rt_tree.specs.Stored.{inside}
use Rattle.rt_work_state.specs.Stores.{Store, origin_in, read, write, write_own}
use Rattle.rt_work.specs.Task.{same_location}

-- a location leads to a datum of the store or of the task's own data: it is there, and is no record and no array
abbrev pub IsThere : Store → List Datum → Location → Type 0
IsThere S own (Shared o path) = (x : Contents) × (e : Datum) × (inside (origin_in S o) path ≡ Some x) × (out-Contents x ≡ Contents-F.Datum e)
IsThere S own (Own k) = (e : Datum) × (slice_get own k ≡ Some e)

-- At the location that was written the datum is read.
abbrev pub ReadsWritten : Type 0
ReadsWritten = (S : Store) (own : List Datum) (l : Location) (d : Datum) → IsThere S own l → read (write S l d) (write_own own l d) l ≡ d

-- At each other location what was there is read.
abbrev pub ReadsOther : Type 0
ReadsOther = (S : Store) (own : List Datum) (l other : Location) (d : Datum) → l ≢ other → read (write S l d) (write_own own l d) other ≡ read S own other

-- Two locations are the same exactly where they are equal.
abbrev pub SameWhereEqual : Type 0
SameWhereEqual = (l other : Location) → (same_location l other ≡ true) ↔ (l ≡ other)
