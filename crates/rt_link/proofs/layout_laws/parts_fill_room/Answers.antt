use Rattle.rt_link.proofs.Followed.{fill_room}
use Rattle.rt_link.proofs.layout_laws.parts_fill_room.Goals as goal

pub returns : goal.returns
returns c = λ objects stacks. fill_room objects stacks
