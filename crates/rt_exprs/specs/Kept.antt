-- The names of a level, as the program keeps them.
use Rattle.std.specs.Prelude.{ℕ, List, map}
use Rattle.indexmap.specs.IndexMap.{IndexMap}
use denote.Bor.{Bor}
use Rattle.rt_exprs.specs.declared.scope.Meaning.{Meaning}
use Rattle.rt_exprs.specs.Sights.{Names}

abbrev pub shown : Bor (List ℕ) × Meaning → List ℕ × Meaning
shown x = (x.0.now, x.1)

abbrev pub names_of : {S : Type 0} → IndexMap (Bor (List ℕ)) Meaning S → Names
names_of level = map shown level.entries
