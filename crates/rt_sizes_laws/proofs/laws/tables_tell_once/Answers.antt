use Rattle.rt_sizes_laws.proofs.Deeper.{tables_tell_once}
use Rattle.rt_sizes_laws.proofs.laws.tables_tell_once.Goals as goal

pub returns : goal.returns
returns c = tables_tell_once
