use Rattle.rt_link.proofs.Verdicts.{one_result}
use Rattle.rt_link.proofs.laws.one_image.Goals as goal

pub returns : goal.returns
returns c = one_result
