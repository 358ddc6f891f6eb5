use Rattle.rt_meaning_laws.proofs.Entering.{world_fits}
use Rattle.rt_meaning_laws.proofs.laws.systems_fit.Goals as goal

pub returns : goal.returns
returns c ps fits = world_fits ps fits
