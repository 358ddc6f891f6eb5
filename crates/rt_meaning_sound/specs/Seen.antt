-- Which names stand for locals that have a value, and what the plain tree of an assigned place names.
use Rattle.std.specs.Prelude.{◌≡◌, ℕ, true, List, Some}
use Rattle.rt_tree_nodes.specs.Typing.{Spot, OnLocal, OnPath, OnRow}
use Rattle.rt_exprs.specs.declared.scope.Meaning.{Meaning}
use Rattle.rt_exprs.specs.declared.scope.Meaning.TheVariants as meaning
use Rattle.rt_exprs.specs.Sights.{Sight}
use Rattle.rt_exprs.specs.Names.{find}
use Rattle.rt_meaning_laws.specs.Trees.{Started}
use Rattle.rt_meaning_laws.specs.Named.{any_name, PathNamed}

-- What stands for a local stands for one that has a value. Of anything else nothing is asked.
abbrev pub LocalSeen : Started → Meaning → Type 0
LocalSeen k (meaning.Local i m) = k i ≡ true
LocalSeen k (meaning.Loop i) = k i ≡ true
LocalSeen k _ = Unit {0}

-- so it is of each name that an expression may use
abbrev pub LocalsSeen : Sight → Started → Type 0
LocalsSeen s k = (name : List ℕ) (is : Meaning) → find s name ≡ Some is → LocalSeen k is

-- A place that is assigned: the local needs no value before, and a row is no such place.
abbrev pub SpotNamed : Started → Spot → Type 0
SpotNamed k (OnLocal i) = Unit {0}
SpotNamed k (OnPath p) = PathNamed any_name k p
SpotNamed k (OnRow v) = ⊥
