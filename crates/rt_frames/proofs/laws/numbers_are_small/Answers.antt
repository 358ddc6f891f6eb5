use Rattle.rt_frames.proofs.Within.{all_small}
use Rattle.rt_frames.proofs.laws.numbers_are_small.Goals as goal

pub returns : goal.returns
returns c = all_small
