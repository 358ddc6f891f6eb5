-- To what each brick of each module of a system is bound: an own or ENT brick to itself, an EXT one to the ENT brick of its
-- name, a supplied procedure to its number. Modules count from 1, and module 0 has the supplied procedures.
use Rattle.std.specs.Prelude.{ℕ, suc, nat_le, Bool, true, false, ◌&&◌, if◌then◌else◌, List, [], ◌∷◌, Option, Some, None}
use Rattle.std.specs.Str.{bytes_eq}
use Rattle.rt_tree_nodes.specs.declared.brick.Brick.{Brick}
use Rattle.rt_tree_nodes.specs.declared.brick.Kind.{Kind}
use Rattle.rt_tree_nodes.specs.declared.brick.Kind.TheVariants as kind
use Rattle.rt_tree_nodes.specs.declared.brick.ModuleParts.{ModuleParts}
use Rattle.rt_tree_nodes.specs.declared.store.Proc.{Proc}
use Rattle.rt_modes.specs.Bricks.{number_of, supplied_by}
use Rattle.rt_modes.specs.declared.supplied.Supplied.{Supplied}
use Rattle.rt_work_state.specs.Stores.{supplied}

-- the number of a supplied procedure; 0 of what isn't one
abbrev pub procedure_number : Option Supplied → ℕ
procedure_number None = 0
procedure_number (Some s) = if nat_le (number_of s) 10 then number_of s else 0

abbrev pub supplied_number : List ℕ → ℕ
supplied_number name = procedure_number (supplied_by name)

abbrev pub is_ent : Kind → Bool
is_ent kind.Ent = true
is_ent _ = false

-- whether a brick is the ENT brick of a name
abbrev pub enters : List ℕ → Brick → Bool
enters name b = is_ent b.kind && bytes_eq b.name name

-- the ENT brick of a name among bricks of module m that count from k
abbrev pub entry_from : List ℕ → ℕ → ℕ → List Brick → Option Proc
entry_from name m k [] = None
entry_from name m k (b ∷ bs) = if enters name b then Some (record { «module» = m; brick = k }) else entry_from name m (suc k) bs

abbrev pub or_else : Option Proc → Option Proc → Option Proc
or_else (Some f) o = Some f
or_else None o = o

-- the first ENT brick of a name among modules that count from m
abbrev pub entry : List ℕ → ℕ → List ModuleParts → Option Proc
entry name m [] = None
entry name m (p ∷ ps) = or_else (entry_from name m 0 p.bricks) (entry name (suc m) ps)

abbrev pub proc_or_none : Option Proc → Proc
proc_or_none None = supplied 0
proc_or_none (Some f) = f

abbrev pub bound_by : Kind → List ModuleParts → ℕ → ℕ → List ℕ → Proc
bound_by kind.Own ps m b name = record { «module» = m; brick = b }
bound_by kind.Ent ps m b name = record { «module» = m; brick = b }
bound_by kind.Ext ps m b name = proc_or_none (entry name 1 ps)
bound_by kind.Svc ps m b name = supplied (supplied_number name)

-- to what brick b of module m is bound, in a system of these modules
abbrev pub bound : List ModuleParts → ℕ → ℕ → Brick → Proc
bound ps m b brick = bound_by brick.kind ps m b brick.name

-- the same of bricks that count from b
abbrev pub bounds_from : List ModuleParts → ℕ → ℕ → List Brick → List Proc
bounds_from ps m b [] = []
bounds_from ps m b (x ∷ xs) = bound ps m b x ∷ bounds_from ps m (suc b) xs

-- to what each brick of module m, which is p, is bound
abbrev pub bounds : List ModuleParts → ℕ → ModuleParts → List Proc
bounds ps m p = bounds_from ps m 0 p.bricks
