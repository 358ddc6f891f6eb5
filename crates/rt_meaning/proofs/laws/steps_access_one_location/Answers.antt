use Rattle.rt_meaning.proofs.Steps.{steps_access_one}
use Rattle.rt_meaning.proofs.laws.steps_access_one_location.Goals as goal

pub returns : goal.returns
returns c = steps_access_one
