use Rattle.rt_tree.proofs.Holding.{holds_written}
use Rattle.rt_tree.proofs.laws.writes_keep_modes.Goals as goal

pub returns : goal.returns
returns c = holds_written
