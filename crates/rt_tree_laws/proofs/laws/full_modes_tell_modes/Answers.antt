use Rattle.rt_tree_laws.proofs.Telling.{full_modes_tell}
use Rattle.rt_tree_laws.proofs.laws.full_modes_tell_modes.Goals as goal

pub returns : goal.returns
returns c t m n names apart sm sn e = full_modes_tell t names apart m n sm sn e
