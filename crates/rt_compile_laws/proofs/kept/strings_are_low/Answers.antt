use Rattle.rt_compile_laws.proofs.Keeping.{strings_are_low}
use Rattle.rt_compile_laws.proofs.kept.strings_are_low.Goals as goal

pub returns : goal.returns
returns c = strings_are_low c.trees_promise.ensures
