use Rattle.rt_accept.proofs.Places.{have_places}
use Rattle.rt_accept.proofs.laws.objects_have_their_places.Goals as goal

pub returns : goal.returns
returns c = have_places
