use Rattle.rt_lower_frames_laws.proofs.Modules.{all_measured}
use Rattle.rt_lower_frames_laws.proofs.Whole.{all_framed}
use Rattle.rt_lower_frames_laws.proofs.values_are_those_of_frames.Goals as goal

pub returns : goal.returns
returns c = record { each = all_framed c.points_are_plain.ensures; modules = all_measured c.points_are_plain.ensures }
