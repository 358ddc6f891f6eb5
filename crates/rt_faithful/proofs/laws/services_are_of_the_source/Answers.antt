use Rattle.rt_faithful.proofs.Serving.{services_agree}
use Rattle.rt_faithful.proofs.laws.services_are_of_the_source.Goals as goal

pub returns : goal.returns
returns c = services_agree
