use Rattle.pdp_symbolic.proofs.Templates.{items_are_pushed}
use Rattle.pdp_symbolic.proofs.laws.items_are_pushed.Goals as goal

pub returns : goal.returns
returns c = items_are_pushed
