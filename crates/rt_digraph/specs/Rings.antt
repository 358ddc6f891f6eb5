-- Which nodes lie on cycles.
use Rattle.std.specs.Prelude.{◌≡◌, ℕ, ◌<◌, ◌↔◌, nat_lt, Bool, true, if◌then◌else◌, List, [], ◌∷◌, length, slice_set}
use Rattle.rt_digraph.specs.Alone.{is_marked}
use Rattle.rt_digraph.specs.Digraph.{Edge}
use Rattle.rt_digraph.specs.Walks.{IsOnCycle}

-- the marked nodes are those that lie on a cycle
abbrev pub AreOnCycles : List (List ℕ) → List Bool → Type 0
AreOnCycles graph marks = (n : ℕ) → (is_marked marks n ≡ true ↔ IsOnCycle (Edge graph) n)

-- the marked nodes lie on cycles, and of those below a number all are marked that do
pub record AreMarkedBelow (graph : List (List ℕ)) (count : ℕ) (marks : List Bool) : Type 0 where
  pub size : length marks ≡ length graph
  pub right : (n : ℕ) → is_marked marks n ≡ true → IsOnCycle (Edge graph) n
  pub below : (n : ℕ) → n < count → IsOnCycle (Edge graph) n → is_marked marks n ≡ true

abbrev pub mark_one : ℕ → List Bool → List Bool
mark_one n marks = if nat_lt n (length marks) then slice_set marks n true else marks

abbrev pub mark : List ℕ → List Bool → List Bool
mark [] marks = marks
mark (n ∷ ns) marks = mark ns (mark_one n marks)
