-- How the need of a procedure is found: in a map, by its module and its brick.
use Rattle.std.specs.Prelude.{◌≡◌, ℕ, if◌then◌else◌, List, Option, Some, None}
use Rattle.std.specs.BTreeMap.{BTreeMap, get_by}
use Rattle.std.specs.Ordering.{nat_cmp, ordering_then}
use Rattle.rt_tree_nodes.specs.declared.store.Proc.{Proc}
use Rattle.rt_graph.specs.Scans.{is_same, or_else, told_need}

abbrev pub NeedMap : Type 0
NeedMap = BTreeMap (ℕ × ℕ) ℕ

-- by module, and in a module by brick
abbrev pub need_in : NeedMap → Proc → Option ℕ
need_in map f = get_by (λ k. ordering_then (nat_cmp f.«module» k.0) (nat_cmp f.brick k.1)) map

-- the need of this procedure
abbrev pub only_of : Proc → ℕ → Proc → Option ℕ
only_of f n g = if is_same f g then Some n else None

-- what the map had, and the need of one procedure where it had none
abbrev pub AddsFirst : Proc → ℕ → NeedMap → NeedMap → Type 0
AddsFirst f n old new = (g : Proc) → need_in new g ≡ or_else (need_in old g) (only_of f n g)

-- the map tells of each procedure what the list tells that goes with an order
abbrev pub Tells : List Proc → List ℕ → NeedMap → Type 0
Tells procs needs map = (g : Proc) → need_in map g ≡ told_need procs needs g
