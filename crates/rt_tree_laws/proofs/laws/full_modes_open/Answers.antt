use Rattle.rt_tree_laws.proofs.Reaching.{full_modes_open}
use Rattle.rt_tree_laws.proofs.laws.full_modes_open.Goals as goal

pub returns : goal.returns
returns c t u m n gt gu sm sn e = full_modes_open t u gt gu m n sm sn e
