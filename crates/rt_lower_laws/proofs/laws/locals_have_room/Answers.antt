use Rattle.rt_lower_laws.proofs.Rooms.{locals_have_room}
use Rattle.rt_lower_laws.proofs.laws.locals_have_room.Goals as goal

pub returns : goal.returns
returns c = locals_have_room
