use Rattle.rt_run.proofs.QueuePlaces.{service_moves}
use Rattle.rt_run.proofs.Ticked.{tick_moves}
use Rattle.rt_run.proofs.super_laws.others_keep_their_places.Goals as goal

pub returns : goal.returns
returns c = record { service = service_moves; tick = tick_moves }
