-- Which value a value of one mode is where another is wanted, by the REFs in front of a mode.
use Rattle.std.specs.Prelude.{◌≡◌, ◌↔◌, ℕ, zero, suc, Some}
use Rattle.rt_modes.specs.declared.mode.Mode.{Mode}
use Rattle.rt_modes.specs.declared.mode.Mode.TheVariants as mode
use Rattle.rt_tree_nodes.specs.declared.operators.Op1.TheVariants as one
use Rattle.rt_tree_nodes.specs.declared.value.Value.{Value}
use Rattle.rt_tree_nodes.specs.declared.value.Value.TheVariants as values
use Rattle.rt_exprs.specs.Modes.{nothing, want, past, becomes}

-- so many times REF over a mode
abbrev pub refs : ℕ → Mode → Mode
refs zero m = m
refs (suc k) m = mode.Ref (refs k m)

-- a value, followed so many times
abbrev pub followed : ℕ → Value → Value
followed zero v = v
followed (suc k) v = followed k (past v)

-- A value of mode m is x where w is wanted: it is followed so many times as REFs stand in front of w in m. A BYTE is an
-- INT by zeros in front. Of a record, an array and LABEL there is no value.
pub data Becomes (m w : Mode) (v : Value) : Value → Type 0 where
  followed_to : (k : ℕ) → m ≡ refs k w → (want w ≡ nothing → ⊥) → Becomes m w v (followed k v)
  widened : (k : ℕ) → m ≡ refs k mode.Byte → w ≡ mode.Int → Becomes m w v (values.Monadic one.Int (followed k v))

-- the function by which the definition says it, and the relation, agree
abbrev pub FollowsReferences : Type 0
FollowsReferences = (m w : Mode) (v x : Value) → (becomes m (want w) v ≡ Some x) ↔ Becomes m w v x
