use Rattle.pdp_symbolic.proofs.Templates.{words_are_fetched}
use Rattle.pdp_symbolic.proofs.laws.words_are_fetched.Goals as goal

pub returns : goal.returns
returns c = words_are_fetched
