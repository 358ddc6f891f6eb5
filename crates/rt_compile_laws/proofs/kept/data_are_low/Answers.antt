use Rattle.rt_compile_laws.proofs.Keeping.{data_are_low}
use Rattle.rt_compile_laws.proofs.kept.data_are_low.Goals as goal

pub returns : goal.returns
returns c = data_are_low c.places_are_within.ensures c.places_are_named.ensures c.trees_promise.ensures
