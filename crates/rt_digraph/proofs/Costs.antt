-- The steps that are left of a walk.
use Rattle.std.proofs.Common.{◌≡◌, ℕ, zero, suc, ◌+◌, ◌<◌, List, [], ◌∷◌, length, Some, slice_get, slice_set, arith}
use Rattle.rt_digraph.specs.Digraph.{successors}
use Rattle.rt_digraph.specs.Going.{cost, left, enter, leave}
use Rattle.rt_digraph.specs.declared.walk.State.{State}
use Rattle.rt_digraph.specs.declared.walk.State.TheVariants as state
use Rattle.rt_digraph.specs.declared.walk.Walk.{Walk}
use Rattle.rt_digraph.proofs.Lists.{no_element, some_is, long_one}

-- what is left once a node's state is another
left_set : (graph : List (List ℕ)) (states : List State) (n : ℕ) (x y : State) → slice_get states n ≡ Some y → left graph (slice_set states n x) + cost (length (successors graph n)) y ≡ left graph states + cost (length (successors graph n)) x
left_set graph [] n x y e = absurd (no_element n y e)
left_set [] (s ∷ states) zero x y e = let same : s ≡ y = some_is s y e in rw same (omega arith)
left_set (of ∷ graph) (s ∷ states) zero x y e = let same : s ≡ y = some_is s y e in rw same (omega arith)
left_set [] (s ∷ states) (suc n) x y e = let h = left_set [] states n x y e in omega arith
left_set (of ∷ graph) (s ∷ states) (suc n) x y e = let h = left_set graph states n x y e in omega arith

pub less_entered : (graph : List (List ℕ)) (w : Walk) (n : ℕ) → slice_get w.states n ≡ Some state.New → left graph (enter graph n w).states + length (enter graph n w).path < left graph w.states + length w.path
less_entered graph w n e =
    let h = left_set graph w.states n (state.Open (length (successors graph n))) state.New e in
    let l = long_one w.path n in omega arith

pub less_passed : (graph : List (List ℕ)) (w : Walk) (n rest : ℕ) → slice_get w.states n ≡ Some (state.Open (rest + 1)) → left graph (slice_set w.states n (state.Open rest)) + length w.path < left graph w.states + length w.path
less_passed graph w n rest e = let h = left_set graph w.states n (state.Open rest) (state.Open (rest + 1)) e in omega arith

pub less_left : (graph : List (List ℕ)) (w : Walk) (n rest : ℕ) → slice_get w.states n ≡ Some (state.Open rest) → left graph (leave n w).states + length (leave n w).path < left graph w.states + length w.path + 1
less_left graph w n rest e = let h = left_set graph w.states n state.Done (state.Open rest) e in omega arith
