-- How it is seen that a node lies on no cycle.
use Rattle.std.specs.Prelude.{◌≡◌, ℕ, ◌≤◌, ◌==◌, nat_lt, Bool, true, false, ◌&&◌, if◌then◌else◌, List, [], ◌∷◌, length, Option, Some, None, slice_get, slice_set}
use Rattle.rt_digraph.specs.Walks.{IsOnCycle}
use Rattle.rt_digraph.specs.Digraph.{Edge, number_or}

abbrev pub true_or_not : Option Bool → Bool
true_or_not None = false
true_or_not (Some b) = b

abbrev pub is_marked : List Bool → ℕ → Bool
is_marked marks n = true_or_not (slice_get marks n)

-- the marked nodes lie on no cycle
abbrev pub AreAlone : List (List ℕ) → List Bool → Type 0
AreAlone graph marks = (n : ℕ) → is_marked marks n ≡ true → IsOnCycle (Edge graph) n → ⊥

-- the number of a node; 0 where it has none
abbrev pub rank : List ℕ → ℕ → ℕ
rank numbers n = number_or 0 (slice_get numbers n)

-- no edge leads to a greater number
abbrev pub AreRanks : List (List ℕ) → List ℕ → Type 0
AreRanks graph numbers = (m n : ℕ) → Edge graph m n → rank numbers n ≤ rank numbers m

module _ (numbers : List ℕ) where
  -- whether no node of some has a number greater than one
  abbrev pub no_more : ℕ → List ℕ → Bool
  no_more most [] = true
  no_more most (n ∷ ns) = if nat_lt most (rank numbers n) then false else no_more most ns

  abbrev pub unmark_one : ℕ → ℕ → List Bool → List Bool
  unmark_one same n marks = if rank numbers n == same && nat_lt n (length marks) then slice_set marks n false else marks

  -- each node of some that has a number is unmarked
  abbrev pub unmark : ℕ → List ℕ → List Bool → List Bool
  unmark same [] marks = marks
  unmark same (n ∷ ns) marks = unmark same ns (unmark_one same n marks)
