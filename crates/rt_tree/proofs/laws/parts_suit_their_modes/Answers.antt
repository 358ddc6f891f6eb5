use Rattle.rt_tree.proofs.Holding.{holds_inside}
use Rattle.rt_tree.proofs.laws.parts_suit_their_modes.Goals as goal

pub returns : goal.returns
returns c = holds_inside
