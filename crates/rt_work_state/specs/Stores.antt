-- Stores: what the data bricks and strings of a system contain, and what is read and written at a location.
-- A location leads from a brick or string through items, fields and elements by their numbers, each counted from 0. There
-- are no addresses. What a location that leads nowhere reads is 0, and a write there changes nothing.
use Rattle.std.specs.Prelude.{ℕ, zero, suc, List, [], ◌∷◌, ◌++◌, Option, Some, None, slice_get, slice_set}
use Rattle.rt_tree_nodes.specs.declared.store.Proc.{Proc}
use Rattle.rt_tree_nodes.specs.declared.store.Origin.{Origin}
use Rattle.rt_tree_nodes.specs.declared.store.Origin.TheVariants.{Brick, Text}
use Rattle.rt_tree_nodes.specs.declared.store.Location.{Location}
use Rattle.rt_tree_nodes.specs.declared.store.Location.TheVariants.{Shared, Own}
use Rattle.rt_tree_nodes.specs.declared.store.Datum.{Datum}
use Rattle.rt_tree_nodes.specs.declared.store.Datum.TheVariants.{Word, Procedure}
use Rattle.rt_tree_nodes.specs.declared.store.Contents.{Contents, out-Contents}
use Rattle.rt_tree_nodes.specs.declared.store.Contents.TheOpen.{Contents-F}
use Rattle.rt_tree.specs.Stored.{changed, inside, written}
use Rattle.rt_work_state.specs.declared.store.ModuleStore.{ModuleStore}

-- what a module's bricks and strings contain, for modules 1, 2 and so on
abbrev pub Store : Type 0
Store = List ModuleStore

-- the element of a number, counted from 1
abbrev pub numbered : {A : Type 0} → List A → ℕ → Option A
numbered xs zero = None
numbered xs (suc n) = slice_get xs n

-- ---- reading

-- what is read of a location that leads nowhere
abbrev pub nothing : Datum
nothing = Word 0

abbrev pub datum_in : Option Datum → Datum
datum_in None = nothing
datum_in (Some d) = d

abbrev pub datum_at : Contents-F Contents → Datum
datum_at (Contents-F.Datum d) = d
datum_at (Contents-F.Parts parts) = nothing

abbrev pub datum_of : Option Contents → Datum
datum_of None = nothing
datum_of (Some c) = datum_at (out-Contents c)

abbrev pub brick_in : Option ModuleStore → ℕ → Option Contents
brick_in None b = None
brick_in (Some m) b = slice_get m.bricks b

abbrev pub text_in : Option ModuleStore → ℕ → Option Contents
text_in None n = None
text_in (Some m) n = slice_get m.texts n

-- what a brick or string contains
abbrev pub origin_in : Store → Origin → Option Contents
origin_in S (Brick m b) = brick_in (numbered S m) b
origin_in S (Text m n) = text_in (numbered S m) n

-- what is read at a location, where `own` is the task's own supplied data
abbrev pub read : Store → List Datum → Location → Datum
read S own (Shared o path) = datum_of (inside (origin_in S o) path)
read S own (Own k) = datum_in (slice_get own k)

-- ---- writing

abbrev pub changed_number : {A : Type 0} → List A → ℕ → (A → A) → List A
changed_number xs zero f = xs
changed_number xs (suc n) f = changed xs n f

abbrev pub module_of : Origin → ℕ
module_of (Brick m b) = m
module_of (Text m n) = m

-- what a module contains after a write
abbrev pub module_written : Origin → List ℕ → Datum → ModuleStore → ModuleStore
module_written (Brick m b) path d c = record { bricks = changed c.bricks b (λ x. written path d x); texts = c.texts }
module_written (Text m n) path d c = record { bricks = c.bricks; texts = changed c.texts n (λ x. written path d x) }

-- the store after a write; a write to the task's own data leaves it
abbrev pub write : Store → Location → Datum → Store
write S (Shared o path) d = changed_number S (module_of o) (λ c. module_written o path d c)
write S (Own k) d = S

-- a task's own data after a write
abbrev pub write_own : List Datum → Location → Datum → List Datum
write_own own (Shared o path) d = own
write_own own (Own k) d = slice_set own k d

-- ---- a task's own data: 0 ERL, 1 ERN, 2 ERP, 3 IN, 4 OUT

abbrev pub erp : Location
erp = Own 2

-- what ERL holds
abbrev pub erl_in : List Datum → Datum
erl_in own = datum_in (slice_get own 0)

-- the supplied procedure of a number
abbrev pub supplied : ℕ → Proc
supplied n = record { «module» = 0; brick = n }

-- at the start ERN is 0, ERP is RRGEL, IN is RRIN and OUT is RROUT
abbrev pub first_own : List Datum
first_own = Word 0 ∷ Word 0 ∷ Procedure (supplied 10) ∷ Procedure (supplied 1) ∷ Procedure (supplied 2) ∷ []

-- ---- locations

-- a part of a location
abbrev pub deeper : Location → ℕ → Location
deeper (Shared o path) k = Shared o (path ++ k ∷ [])
deeper (Own k) j = Own k
