use Rattle.pdp_symbolic.proofs.Templates.{procedures_end}
use Rattle.pdp_symbolic.proofs.laws.procedures_end.Goals as goal

pub returns : goal.returns
returns c = procedures_end
