-- What is left of a list after some of its items.
use Rattle.std.proofs.Common.{◌≡◌, ◌≤◌, List, ◌∷◌, length, refl, arith}
use Rattle.rt_pieces.specs.declared.item.Item.{Item}

pub data Tail : List Item → List Item → Type 0 where
  all : {l : List Item} → Tail l l
  past : {i : Item} {l r : List Item} → Tail l r → Tail (i ∷ l) r

pub Tail-length : {l r : List Item} → Tail l r → length r ≤ length l
Tail-length all = omega arith
Tail-length (past t) = omega (arith, Tail-length t)

pub Tail-then : {l m r : List Item} → Tail l m → Tail m r → Tail l r
Tail-then all t = t
Tail-then (past s) t = past (Tail-then s t)

-- of two tails of one list the shorter is a tail of the longer
pub between : {l m r : List Item} → Tail l m → Tail l r → length r ≤ length m → Tail m r
between all t le = t
between (past s) all le = absurd (omega (arith, Tail-length s))
between (past s) (past t) le = between s t le

pub Tail-same : {l r : List Item} → Tail l r → length l ≤ length r → l ≡ r
Tail-same all le = refl
Tail-same (past t) le = absurd (omega (arith, Tail-length t))
