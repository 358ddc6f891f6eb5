-- Tests that are passed.
use Rattle.std.proofs.Common.{◌≡◌, ◌&&◌, Bool, true, false, Option, Some, None, refl}
use Rattle.rt_tree_nodes.specs.Scopes.{passes}

pub left_of : (a b : Bool) → (a && b) ≡ true → a ≡ true
left_of true b e = refl
left_of false b e = absurd cc

pub right_of : (a b : Bool) → (a && b) ≡ true → b ≡ true
right_of true b e = e
right_of false b e = absurd cc

pub passed : {A : Type 0} (test : A → Bool) (o : Option A) → passes test o ≡ true → (x : A) × (o ≡ Some x) × (test x ≡ true)
passed test None e = absurd cc
passed test (Some x) e = (x, refl, e)
