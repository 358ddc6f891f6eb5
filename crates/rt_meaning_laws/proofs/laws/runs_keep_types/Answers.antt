use Rattle.rt_meaning_laws.proofs.Running.{runs_keep}
use Rattle.rt_meaning_laws.proofs.laws.runs_keep_types.Goals as goal

pub returns : goal.returns
returns c = runs_keep c.parts_suit_their_modes.ensures c.writes_keep_modes.ensures
