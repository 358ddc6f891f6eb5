use Rattle.pdp_symbolic.proofs.Templates.{numbers_are_pushed}
use Rattle.pdp_symbolic.proofs.laws.numbers_are_pushed.Goals as goal

pub returns : goal.returns
returns c = numbers_are_pushed
