-- The bricks of a system in one row: by module, and in a module by declaration. Module 0 has the numbers 0 to 10, of which 0 is no
-- procedure.
use Rattle.std.specs.Prelude.{ℕ, zero, suc, ◌+◌, nat_le, ◌&&◌, Bool, if◌then◌else◌, is_some, List, [], ◌∷◌, ◌++◌, length, Option, Some, None}
use Rattle.rt_modes.specs.FullMode.{FullMode}
use Rattle.rt_tree_nodes.specs.declared.store.Proc.{Proc}
use Rattle.rt_object.specs.declared.object.ObjectParts.{ObjectParts}
use Rattle.rt_object.specs.declared.object.ProcContent.{ProcContent}
use Rattle.rt_modes.specs.Bricks.{brick_numbered, text_in}
use Rattle.rt_graph.specs.Calls.{brick, numbered, proc_at}

-- so many bricks of module m, from brick b on
abbrev pub bricks_from : ℕ → ℕ → ℕ → List Proc
bricks_from m b zero = []
bricks_from m b (suc n) = brick m b ∷ bricks_from m (suc b) n

-- the bricks of modules, of which the first has number m
abbrev pub modules_from : ℕ → List ObjectParts → List Proc
modules_from m [] = []
modules_from m (o ∷ os) = bricks_from m 0 (length o.bricks) ++ modules_from (suc m) os

abbrev pub all_bricks : List ObjectParts → List Proc
all_bricks objects = bricks_from 0 0 11 ++ modules_from 1 objects

-- how many bricks the modules before one have, which is counted from 0
abbrev pub before : List ObjectParts → ℕ → ℕ
before [] m = 0
before (o ∷ os) zero = 0
before (o ∷ os) (suc m) = length o.bricks + before os m

-- where a brick stands in the row
abbrev pub place_in : List ObjectParts → ℕ → ℕ → ℕ
place_in objects zero b = b
place_in objects (suc m) b = 11 + before objects m + b

abbrev pub place : List ObjectParts → Proc → ℕ
place objects f = place_in objects f.«module» f.brick

abbrev pub in_object : Option ObjectParts → ℕ → Option ProcContent
in_object None b = None
in_object (Some o) b = proc_at o.bricks b

-- what a procedure of a module holds
abbrev pub body_of : List ObjectParts → Proc → Option ProcContent
body_of objects f = in_object (numbered objects f.«module») f.brick

abbrev pub is_supplied : ℕ → Bool
is_supplied k = nat_le 1 k && nat_le k 10

abbrev pub is_procedure_in : List ObjectParts → ℕ → ℕ → Bool
is_procedure_in objects zero b = is_supplied b
is_procedure_in objects (suc m) b = is_some (body_of objects (brick (suc m) b))

abbrev pub is_procedure : List ObjectParts → Proc → Bool
is_procedure objects f = is_procedure_in objects f.«module» f.brick

-- the number of a procedure
abbrev pub number_of : List ObjectParts → Proc → Option ℕ
number_of objects f = if is_procedure objects f then Some (place objects f) else None

abbrev pub and_then : {A B : Type 0} → Option A → (A → Option B) → Option B
and_then None go_on = None
and_then (Some a) go_on = go_on a

abbrev pub full_of : Option ObjectParts → Option ProcContent → Option (List ℕ)
full_of (Some o) (Some p) = Some (FullMode o.records p.mode)
full_of _ _ = None

abbrev pub full_in : List ObjectParts → ℕ → ℕ → Option (List ℕ)
full_in objects zero b = if is_supplied b then Some (text_in (brick_numbered b)) else None
full_in objects (suc m) b = full_of (numbered objects (suc m)) (body_of objects (brick (suc m) b))

-- the full mode of a procedure, as a text
abbrev pub full_mode : List ObjectParts → Proc → Option (List ℕ)
full_mode objects f = full_in objects f.«module» f.brick
