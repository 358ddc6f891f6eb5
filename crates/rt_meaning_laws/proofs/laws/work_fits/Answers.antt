use Rattle.rt_meaning_laws.proofs.Following.{next_fits}
use Rattle.rt_meaning_laws.proofs.laws.work_fits.Goals as goal

pub returns : goal.returns
returns c ps x e todo ss vs ls so g r = next_fits ps x e so g todo r.has ss r.fits vs ls r.filled r.locals
