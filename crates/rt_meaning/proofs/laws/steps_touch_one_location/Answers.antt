use Rattle.rt_meaning.proofs.Touching.{steps_touch_one}
use Rattle.rt_meaning.proofs.laws.steps_touch_one_location.Goals as goal

pub returns : goal.returns
returns c = steps_touch_one
