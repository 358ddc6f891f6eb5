use Rattle.rt_rules.proofs.Finds.{finds_first, finds_none, one_first}
use Rattle.rt_rules.proofs.laws.first_is_least.Goals as goal

pub returns : goal.returns
returns c = record { found = finds_first; none = finds_none; one = one_first }
