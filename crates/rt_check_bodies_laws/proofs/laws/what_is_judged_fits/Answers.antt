use Rattle.rt_check_bodies_laws.proofs.Brick.{procedure_accepted}
use Rattle.rt_check_bodies_laws.proofs.laws.what_is_judged_fits.Goals as goal

pub returns : goal.returns
returns g c s b ms r h none = procedure_accepted c s b ms r h.outside h.known h.few h.standing h.heads h.answers h.broad h.labels none
