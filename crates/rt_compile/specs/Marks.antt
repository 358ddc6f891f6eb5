-- Marks of the numbers of bricks.
use Rattle.std.specs.Prelude.{ℕ, ◌+◌, nat_lt, Bool, true, false, List, [], ◌∷◌, length, Option, Some, None, slice_set, if◌then◌else◌}
use Rattle.rt_tree_nodes.specs.Scopes.{with}

-- a number is marked; none has a mark that is no brick's
abbrev pub marked : ℕ → List Bool → Option (List Bool)
marked k ms = if nat_lt k (length ms) then Some (slice_set ms k true) else None

-- all of some numbers
abbrev pub all_marked : List ℕ → List Bool → Option (List Bool)
all_marked [] ms = Some ms
all_marked (k ∷ ks) ms = with (marked k ms) (all_marked ks)

-- the numbers that are marked, the first mark being that of number k
abbrev pub numbers_of : ℕ → List Bool → List ℕ
numbers_of k [] = []
numbers_of k (true ∷ ms) = k ∷ numbers_of (k + 1) ms
numbers_of k (false ∷ ms) = numbers_of (k + 1) ms
