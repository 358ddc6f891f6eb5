use Rattle.pdp_symbolic.proofs.Templates.{acts_are_done}
use Rattle.pdp_symbolic.proofs.laws.acts_are_done.Goals as goal

pub returns : goal.returns
returns c = acts_are_done
