-- What a change of one node's state does to the others.
use Rattle.std.proofs.Common.{◌≡◌, ℕ, List, Option, Some, None, slice_get, slice_set, sym, ap, ◌∙◌}
use Rattle.rt_digraph.specs.Going.{IsOpen, IsDone, rest_of}
use Rattle.rt_digraph.specs.declared.walk.State.{State}
use Rattle.rt_digraph.specs.declared.walk.State.TheVariants as state
use Rattle.rt_digraph.proofs.Lists.{set_same, set_other, some_is}

pub open_not_done : (states : List State) (n : ℕ) → IsOpen states n → IsDone states n → ⊥
open_not_done states n o d = let a : slice_get states n ≡ Some (state.Open o.0) = o.1 in cc

pub new_not_open : (states : List State) (n : ℕ) → slice_get states n ≡ Some state.New → IsOpen states n → ⊥
new_not_open states n e o = let a : slice_get states n ≡ Some (state.Open o.0) = o.1 in cc

pub new_not_done : (states : List State) (n : ℕ) → slice_get states n ≡ Some state.New → IsDone states n → ⊥
new_not_done states n e d = cc

pub rest_is : (o : Option State) (rest : ℕ) → rest_of o ≡ Some rest → o ≡ Some (state.Open rest)
rest_is None rest e = absurd cc
rest_is (Some state.New) rest e = absurd cc
rest_is (Some (state.Open r)) rest e = ap (λ z. Some (state.Open z)) (some_is r rest e)
rest_is (Some state.Done) rest e = absurd cc

-- ---- a node's state becomes x

module _ (states : List State) (n : ℕ) (x : State) where
  pub open_kept : (k : ℕ) → (k ≡ n → ⊥) → IsOpen states k → IsOpen (slice_set states n x) k
  open_kept k other o = (o.0, set_other states n k x other ∙ o.1)

  pub done_kept : (k : ℕ) → (k ≡ n → ⊥) → IsDone states k → IsDone (slice_set states n x) k
  done_kept k other d = set_other states n k x other ∙ d

  pub open_from : (k : ℕ) → (k ≡ n → ⊥) → IsOpen (slice_set states n x) k → IsOpen states k
  open_from k other o = (o.0, sym (set_other states n k x other) ∙ o.1)

  pub done_from : (k : ℕ) → (k ≡ n → ⊥) → IsDone (slice_set states n x) k → IsDone states k
  done_from k other d = sym (set_other states n k x other) ∙ d

-- a node that is not done becomes open
module _ (states : List State) (n rest : ℕ) (y : State) (here : slice_get states n ≡ Some y) (open_or_new : y ≡ state.Done → ⊥) where
  pub opens : IsOpen (slice_set states n (state.Open rest)) n
  opens = (rest, set_same states n (state.Open rest) y here)

  pub not_done : IsDone states n → ⊥
  not_done d = open_or_new (some_is y state.Done (sym here ∙ d))
