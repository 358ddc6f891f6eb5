-- Small facts of tests, options and lists.
use Rattle.std.proofs.Common.{◌≡◌, ℕ, suc, ◌==◌, ◌&&◌, Bool, true, false, if◌then◌else◌, Option, Some, None, option_map, arith, refl, sym, ◌∙◌}
use Rattle.std.proofs.lemmas.Bool.Decides.{nat_tests}
use Rattle.rt_tree_nodes.specs.Scopes.{with, only, passes}

pub left_of : (a b : Bool) → a && b ≡ true → a ≡ true
left_of true b e = refl
left_of false b e = e

pub right_of : (a b : Bool) → a && b ≡ true → b ≡ true
right_of true b e = e
right_of false b e = absurd cc

pub two_true : (a b : Bool) → a && b ≡ true → (a ≡ true) × (b ≡ true)
two_true a b e = (left_of a b e, right_of a b e)

-- what passes is there
pub passed : {A : Type 0} (f : A → Bool) (o : Option A) → passes f o ≡ true → (x : A) × (o ≡ Some x) × (f x ≡ true)
passed f None e = absurd cc
passed f (Some x) e = (x, refl, e)

-- what is there of a chain
pub with_is : {A B : Type 0} (o : Option A) (go : A → Option B) (y : B) → with o go ≡ Some y → (x : A) × (o ≡ Some x) × (go x ≡ Some y)
with_is None go y e = absurd cc
with_is (Some x) go y e = (x, refl, e)

pub mapped_is : {A B : Type 0} (f : A → B) (o : Option A) (y : B) → option_map f o ≡ Some y → (x : A) × (o ≡ Some x) × (f x ≡ y)
mapped_is f None y e = absurd cc
mapped_is f (Some x) y e = (x, refl, cc)

pub only_is : {A : Type 0} (b : Bool) (x y : A) → only b x ≡ Some y → (b ≡ true) × (x ≡ y)
only_is true x y e = (refl, cc)
only_is false x y e = absurd cc

pub if_some : {A : Type 0} (b : Bool) (o : Option A) (y : A) → (if b then o else None) ≡ Some y → (b ≡ true) × (o ≡ Some y)
if_some true o y e = (refl, e)
if_some false o y e = absurd cc

pub some_same : {A : Type 0} (x y : A) (o : Option A) → o ≡ Some x → o ≡ Some y → x ≡ y
some_same x y o e h = let q : Some x ≡ Some y = sym e ∙ h in cc

-- a list of some is none without elements
pub none_left : (k : ℕ) → (suc k == 0) ≡ true → ⊥
none_left k e = grind (arith, nat_tests)
