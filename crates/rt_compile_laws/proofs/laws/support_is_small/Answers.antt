use Rattle.rt_compile_laws.proofs.Long.{support_is_small}
use Rattle.rt_compile_laws.proofs.laws.support_is_small.Goals as goal

pub returns : goal.returns
returns c = support_is_small c.support_is_short.ensures
