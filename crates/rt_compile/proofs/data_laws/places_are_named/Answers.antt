use Rattle.std.proofs.Common.{ℕ, length, subst}
use Rattle.std.proofs.lemmas.List.{length-map}
use Rattle.std.specs.List.{AllByRecursion}
use Rattle.rt_object.specs.declared.object.Relocation.{Relocation}
use Rattle.rt_object.specs.Ranges.{IsNamed}
use Rattle.rt_tree_nodes.specs.Scopes.{face, scope_of}
use Rattle.rt_compile.specs.Data.{data_of}
use Rattle.rt_compile.proofs.Fitting.{starts_fit}
use Rattle.rt_compile.proofs.Named.{data_named}
use Rattle.rt_compile.proofs.data_laws.places_are_named.Goals as goal

pub returns : goal.returns
returns c = λ l p fs ss fits b.
    subst (λ (n : ℕ). AllByRecursion (λ (r : Relocation). IsNamed (length p.strings) n r.of) (data_of l (scope_of p) fs ss).relocations) (length-map p.bricks face)
    (data_named l (scope_of p) fs ss (starts_fit p fits fs ss b))
