use Rattle.rt_meaning.proofs.Steps.{answers_serve}
use Rattle.rt_meaning.proofs.laws.answers_serve.Goals as goal

pub returns : goal.returns
returns c = answers_serve
