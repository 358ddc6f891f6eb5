use Rattle.rt_meaning_laws.proofs.Beginnings.{starts_fit_all}
use Rattle.rt_meaning_laws.proofs.laws.starts_fit.Goals as goal

pub returns : goal.returns
returns c = starts_fit_all
