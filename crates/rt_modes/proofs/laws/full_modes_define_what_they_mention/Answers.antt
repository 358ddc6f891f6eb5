use Rattle.rt_modes.proofs.Closing.{define_mentioned}
use Rattle.rt_modes.proofs.laws.full_modes_define_what_they_mention.Goals as goal

pub returns : goal.returns
returns c = define_mentioned
