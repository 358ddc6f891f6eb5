use Rattle.rt_link.proofs.Placed.{entries_are}
use Rattle.rt_link.proofs.image_laws.entries_are_stacks.Goals as goal

pub returns : goal.returns
returns c = entries_are
