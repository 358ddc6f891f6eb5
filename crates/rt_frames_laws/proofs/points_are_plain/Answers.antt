use Rattle.rt_frames_laws.proofs.Frames.{all_plain}
use Rattle.rt_frames_laws.proofs.points_are_plain.Goals as goal

pub returns : goal.returns
returns c = all_plain
