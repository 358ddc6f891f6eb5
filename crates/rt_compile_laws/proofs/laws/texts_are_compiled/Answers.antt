use Rattle.rt_compile_laws.proofs.Whole.{texts_are_compiled}
use Rattle.rt_compile_laws.proofs.laws.texts_are_compiled.Goals as goal

pub returns : goal.returns
returns c = texts_are_compiled c.fitting_trees_are_compiled.ensures c.trees_promise.ensures
