use Rattle.rt_meaning_sound.proofs.Modes.{all_short}
use Rattle.rt_meaning_sound.proofs.laws.modes_are_short.Goals as goal

pub returns : goal.returns
returns c = all_short
