use Rattle.rt_meaning_laws.proofs.Whole.{modules_make_systems}
use Rattle.rt_meaning_laws.proofs.laws.modules_fit.Goals as goal

pub returns : goal.returns
returns c = modules_make_systems c.full_modes_open.ensures
