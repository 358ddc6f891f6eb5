use Rattle.rt_compile_laws.proofs.Long.{long_texts_are_large}
use Rattle.rt_compile_laws.proofs.laws.long_texts_are_large.Goals as goal

pub returns : goal.returns
returns c = long_texts_are_large c.long_code_is_large.ensures c.trees_promise.ensures
