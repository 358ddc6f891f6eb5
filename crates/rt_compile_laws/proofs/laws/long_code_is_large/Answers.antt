use Rattle.rt_compile_laws.proofs.Long.{long_code_is_large}
use Rattle.rt_compile_laws.proofs.laws.long_code_is_large.Goals as goal

pub returns : goal.returns
returns c = long_code_is_large c.code_is_within.ensures.within
